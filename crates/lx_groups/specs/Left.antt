-- What an iterator over the members of a group has left.
use Rattle.std.specs.Prelude.{List, map}
use Rattle.lx_spec.specs.declared.Member.{Member}
use Rattle.lx_spec.specs.EditedShow.{in_proportion}
use Rattle.lx_groups.specs.declared.scaled.Members.{Members}

-- the members that are left, each at its level in proportion
abbrev pub members_left : Members → List Member
members_left m = map (in_proportion m.level) m.rest.now
