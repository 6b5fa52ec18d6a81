-- What the proofs of this crate import from its specs and from other crates. It declares nothing.
pub use Rattle.std.proofs.Common.{[], ℕ, ◌&&◌, ◌++◌, ◌==◌, ◌||◌, ◌∙◌, ◌∷◌, ◌≡◌, ◌≤◌, ap, append-nil, append_assoc}
pub use Rattle.std.proofs.Common.{ap₂, arith, Bool, codes, drop, false, find, fold, IfSome, if◌then◌else◌, inl, IsSomeAnd, length, List, map, nat_le}
pub use Rattle.std.proofs.Common.{None, Option, option_and_then, option_map, refl, rules, Some, string_bytes, subst, sym, true, unwrap_or}
pub use Rattle.clap.specs.Lexer.{long_of, long_of_rest, short_of, short_of_rest, strip_byte, usize_max}
pub use Rattle.clap.specs.Simple.{App, app_of_fields, built, is_simple, matches_of, new_app, new_rule, on_top, Shape, with_rule}
pub use Rattle.clap.specs.Takes.{bundle_passes, default_passes, flag_word_passes, is_valid, level_passes, other_passes, settle_passes, step_passes, takes}
pub use Rattle.clap.specs.Takes.{turn_passes, value_passes}
pub use Rattle.clap.specs.Walk.{after_step, all_of, finished, Held, idle, long_or_other, nothing_held, positional, reading_by, Row, row_of, rows_of, Rule}
pub use Rattle.clap.specs.Walk.{short_or_plain, Step, Text, trailing, value, Waiting, Walk, walk, walk_from, walked}
pub use Rattle.clap.specs.Words.{app_of, found_of, matched_of, raw_values, rule_of}
pub use Rattle.clap.specs.declared.builder.action.ArgAction.TheVariants.{Append}
pub use Rattle.lx_desk.proofs.EmptyPrefixes.{unwritten}
pub use Rattle.lx_program.specs.Words.{begins_with_dash, values_of}
pub use Rattle.lx_spec.specs.Job.{counted_job, form_of, given_to, job_of, number_alone, plain_number}
pub use Rattle.lx_spec.specs.declared.Form.{Form}
pub use Rattle.lx_spec.specs.declared.Job.{Job}
pub use Rattle.lx_spec.specs.declared.Job.TheVariants.{Check, Crew, Make, Script, Sheet}
pub use Rattle.lx_spec.specs.declared.ScriptKind.TheVariants.{Live, Render, Two, Undo}
pub use Rattle.std.proofs.lemmas.Bool.Decides.{nat_tests}
pub use Rattle.std.specs.List.{list_all, list_any}
pub use Rattle.std.specs.Str.{bytes_eq}
