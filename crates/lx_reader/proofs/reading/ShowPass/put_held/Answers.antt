use Rattle.lx_reader.proofs.Imports.{subst, sym, OpenFits}
use Rattle.lx_reader.proofs.reading.ShowPass.put_held.Goals as goal

pub put_record-requires : goal.put_record-requires
put_record-requires g c =
    let g = c.args.self.now in
    (g.reader.section, subst (OpenFits g.reader.show g.reader.section g.moves) (sym c.replace-held.ensures.value) c.requires)
