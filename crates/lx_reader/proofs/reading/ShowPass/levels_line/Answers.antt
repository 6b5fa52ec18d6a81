use Rattle.lx_reader.proofs.Imports.{map, ◌≤◌, arith, CHANNELS}
use Rattle.lx_reader.proofs.Members.{greatest_least, greatest_most}
use Rattle.lx_reader.proofs.OpenLevels.{levels_outcome, still_fits}
use Rattle.lx_reader.proofs.reading.ShowPass.levels_line.Goals as goal

pub widen-requires-clause-least : goal.widen-requires-clause-least
widen-requires-clause-least g c =
    let read = c.in_ok-greatest.ensures.levels in
    omega (arith, read.is_greatest, c.channels-channels.ensures.channels, greatest_least c.channels-channels.result (map (λ m. m.chan) read.members))

pub widen-requires-clause-most : goal.widen-requires-clause-most
widen-requires-clause-most g c =
    let read = c.in_ok-greatest.ensures.levels in
    let few : c.channels-channels.result ≤ CHANNELS =
    omega (arith, c.channels-channels.ensures.channels, c.channels-channels.ensures.valid.channels.most) in
    omega (arith, read.is_greatest, greatest_most c.channels-channels.result read.members few read.valid)

pub returns-clause-outcome : goal.returns-clause-outcome
returns-clause-outcome g c =
    let g = c.args.self.now in
    let read = rw c.channels-channels.ensures.channels at c.in_ok-greatest.ensures.levels in
    levels_outcome g.reader read g.held c.widen.ensures c.requires.open_one c.requires.pass.ready.going c.requires.pass.fits

pub returns-clause-fits : goal.returns-clause-fits
returns-clause-fits g c =
    let g = c.args.self.now in
    let read = rw c.channels-channels.ensures.channels at c.in_ok-greatest.ensures.levels in
    still_fits g.reader read g.held c.widen.ensures c.requires.open_one c.requires.pass.ready.open_section c.requires.pass.fits
