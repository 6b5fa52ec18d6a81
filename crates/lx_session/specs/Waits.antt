-- Where all that was written is handed on: before a read that may wait, and at the end of the script.
use Rattle.std.specs.Prelude.{◌≡◌, ◌⊎◌, ℕ, List, [], Result, Ok, Err}
use Rattle.std.specs.Io.KnownBytes.{Keeps}
use Rattle.lx_io.specs.Told.{ToldBySink}
use Rattle.lx_lex.specs.declared.lines.Lines.{Lines}
use Rattle.lx_session.specs.declared.fault.SessionFault.{SessionFault}
use Rattle.lx_session.specs.declared.fault.SessionFault.TheVariants.{ReadFault}

-- the source wasn't read; or the sink, which holds what it held, kept nothing back
abbrev pub WaitsFlushed : {S K : Type 0} → (told : ToldBySink K) → (old new : Lines S) → K → Type 0
WaitsFlushed {S} {K} told old new sink =
    (new.source.now ≡ old.source.now) ⊎ ((flushed : K) × Keeps (told.holds sink) (told.holds flushed) × (told.back flushed ≡ []))

-- what is kept back of the replies: nothing with Ok, nor where a read failed, before which all of them were handed on
abbrev pub HandsOnReplies : {T : Type 0} → Result T SessionFault → List ℕ → Type 0
HandsOnReplies (Ok x) back = back ≡ []
HandsOnReplies (Err ReadFault) back = back ≡ []
HandsOnReplies (Err other) back = Unit {0}
