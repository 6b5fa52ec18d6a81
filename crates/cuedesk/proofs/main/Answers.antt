use Rattle.cuedesk.proofs.FilledPlaces.{each, full}
use Rattle.cuedesk.proofs.main.Goals as goal

pub desk_live_in-status-requires-clause-full : goal.desk_live_in-status-requires-clause-full
desk_live_in-status-requires-clause-full g c κs = full _ c.files-outlets.ensures.full

pub desk_crew_in-status-requires-clause-full : goal.desk_crew_in-status-requires-clause-full
desk_crew_in-status-requires-clause-full g c κs = each _ c.scripts-operators.ensures.full
