-- The texts that answer a script line.
use Rattle.std.specs.Prelude.{ℕ, Option, Some, None, List, [], ◌∷◌, decimal}
use Rattle.lx_spec.specs.Replies.{ok_text, bad_text, refused_text}
use Rattle.lx_script.specs.declared.reply.Reply.{Reply}
use Rattle.lx_script.specs.declared.reply.Reply.TheVariants.{Ok, Bad, Refused}

-- the line of a reply
abbrev pub reply_text : Reply → List ℕ
reply_text Ok = ok_text
reply_text Bad = bad_text
reply_text (Refused refusal) = refused_text refusal

-- the word for a count, where there is one
abbrev pub count_words : Option ℕ → List (List ℕ)
count_words (Some count) = decimal count ∷ []
count_words None = []
