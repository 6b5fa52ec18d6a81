-- How the fault of a show's text, and where the playback stands, are told to C.
use Rattle.std.specs.Prelude.{ℕ, is_some, unwrap_or}
use Rattle.lx_spec.specs.declared.TextFault.TheVariants as texts
use Rattle.lx_reader.specs.declared.fault.ShowFault.{ShowFault}
use Rattle.lx_reader.specs.declared.fault.ShowFault.TheVariants as faults
use Rattle.lx_embed.specs.declared.state.PlaybackState.{PlaybackState}
use Rattle.lx_embed.specs.declared.state.RunSpan.{RunSpan}
use Rattle.lx_host.specs.declared.status.PlaybackReport.{PlaybackReport}
use Rattle.lx_host.specs.declared.status.ShowReport.{ShowReport}
use Rattle.lx_host.specs.declared.status.TheConstants.{MEMORY, SHOW_REFUSED, TOO_LONG}

-- the status that tells the fault of an opening
abbrev pub fault_status : ShowFault → ℕ
fault_status (faults.Text fault) = SHOW_REFUSED
fault_status faults.InputTooLong = TOO_LONG
fault_status faults.ReadFault = TOO_LONG
fault_status faults.Memory = MEMORY

-- the report that tells it: none but of a text's own fault
abbrev pub show_report : ShowFault → ShowReport
show_report (faults.Text (texts.NoIdent i)) = record { fault = 1; line = i }
show_report (faults.Text (texts.BadNumber i)) = record { fault = 2; line = i }
show_report (faults.Text (texts.OutOfRange i)) = record { fault = 3; line = i }
show_report (faults.Text (texts.NotInRecord i)) = record { fault = 4; line = i }
show_report (faults.Text (texts.LineTooLong i)) = record { fault = 5; line = i }
show_report (faults.Text (texts.ShortList i)) = record { fault = 6; line = i }
show_report (faults.Text (texts.NoEndData i)) = record { fault = 7; line = i }
show_report other = record { fault = 0; line = 0 }

-- with 0 for what isn't there
abbrev pub playback_of : PlaybackState → PlaybackReport
playback_of state =
    let newest : RunSpan = unwrap_or state.newest (record { began = 0; ends = 0 }) in
    record {
      moment = state.moment;
      position = state.position;
      next = unwrap_or state.next 0;
      live = state.live;
      over_at = state.over_at;
      began = newest.began;
      ends = newest.ends;
      follow_at = unwrap_or state.follow_at 0;
      channels = state.channels;
      cues = state.cues;
      master = state.master;
      follows = is_some state.follow_at;
    }
