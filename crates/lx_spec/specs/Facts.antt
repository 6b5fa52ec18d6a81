-- What is known of a line of a show text from the lines before it.
use Rattle.std.specs.Prelude.{ℕ, ◌+◌, Bool, false, ◌||◌, Option, Some, None, List, [], option_and_then, is_some, unwrap_or, if◌then◌else◌}
use Rattle.lx_spec.specs.Limits.{Limits}
use Rattle.lx_spec.specs.SortedList.{placed}
use Rattle.lx_spec.specs.Entry.{Section, NoRecord, Entry, section_begun, part_named, identifies, clears_all, cue_in}

-- The limits of the text, the line's number, whether an IDENT line stands before it, its section and open part, and the cues that were
-- begun
-- since the last CLEAR ALL, each once.
pub record Facts : Type 0 where
  pub limits : Limits
  pub number : ℕ
  pub identified : Bool
  pub section : Section
  pub part : ℕ
  pub cues : List ℕ

abbrev pub first_facts : Limits → Facts
first_facts limits = record { limits = limits; number = 1; identified = false; section = NoRecord; part = 1; cues = [] }

abbrev pub with_cue_named : Option ℕ → List ℕ → List ℕ
with_cue_named None ns = ns
with_cue_named (Some n) ns = placed (λ m. m) n ns

-- what is known of the next line, after what this one says
abbrev pub facts_after : Facts → Entry → Facts
facts_after facts entry =
    let begun = section_begun entry in
    record facts {
      number = facts.number + 1;
      identified = identifies entry || facts.identified;
      section = unwrap_or begun facts.section;
      part = if is_some begun then 1 else unwrap_or (part_named entry) facts.part;
      cues = if clears_all entry then [] else with_cue_named (option_and_then cue_in begun) facts.cues;
    }
