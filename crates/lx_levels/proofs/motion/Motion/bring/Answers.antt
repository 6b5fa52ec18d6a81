use Rattle.lx_levels.proofs.Imports.{sym, no_current, place_of}
use Rattle.std.proofs.lemmas.List.{set-get_or}
use Rattle.lx_levels.proofs.motion.Motion.bring.Goals as goal

pub returns-then-m-index-clause-others : goal.returns-then-m-index-clause-others
returns-then-m-index-clause-others c = record {
  place = place_of c.args.self.now c.args.k;
  currents = sym (set-get_or c.args.self.now.currents.items c.args.k no_current);
  levels = sym (set-get_or c.args.self.now.levels.items c.args.k 0);
  holds = sym (set-get_or c.args.self.now.holds.items c.args.k 0);
}
