-- Lists of commands, of which one is a prefix of another.
use Rattle.std.specs.Prelude.{List, [], ◌∷◌, ◌++◌, ◌<◌, length, ltb, cond}
use mathlib.Core.List.{IsPrefix}
use Rattle.lx_spec.specs.declared.Command.{Command}

-- the commands of all batches, one after another
abbrev pub flat : List (List Command) → List Command
flat [] = []
flat (batch ∷ batches) = batch ++ flat batches

-- the longer of two lists; the first, where they are as long
abbrev pub longest : List Command → List Command → List Command
longest xs ys = cond (ltb (length xs) (length ys)) ys xs

-- one of two lists is a prefix of the other
pub record IsChained (xs ys : List Command) : Type 0 where
  pub first : IsPrefix xs (longest xs ys)
  pub second : IsPrefix ys (longest xs ys)

-- the second list begins with the first, and goes on
abbrev pub IsLonger : List Command → List Command → Type 0
IsLonger xs ys = IsPrefix xs ys × (length xs < length ys)
