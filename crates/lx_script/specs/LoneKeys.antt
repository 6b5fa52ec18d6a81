-- Lines that are a key's word in small letters and nothing else.
use Rattle.std.specs.Prelude.{ℕ, Option, Some, None, List, if◌then◌else◌, codes}
use Rattle.std.specs.Str.{bytes_eq}
use Rattle.lx_spec.specs.declared.PlayKey.{PlayKey}
use Rattle.lx_spec.specs.declared.PlayKey.TheVariants.{Go, Back}

abbrev pub lone_key : List ℕ → Option PlayKey
lone_key line = if bytes_eq line (codes "go") then Some Go else (if bytes_eq line (codes "back") then Some Back else None)
