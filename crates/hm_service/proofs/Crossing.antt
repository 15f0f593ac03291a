-- What a thread of a check is lent and what it returns may cross threads.
use denote.Param.Send.{IsSend, IsSync, sendable}
use denote.Ref.{NamedLft}
use Rattle.std.proofs.Crossing.{crosses}
use Rattle.hm_build.proofs.Crossing.{records_field_send, records_field_sync, store_send, store_sync}
use Rattle.hm_build_stages.specs.contracts.finished_build.Finished as Finished
use Rattle.hm_messages_json.specs.contracts.message.Position as Position
use Rattle.hm_messages_json.specs.contracts.message.Range as Range
use Rattle.hm_run_parallel_parse.proofs.Crossing.{module_send, module_sync}
use Rattle.hm_service_messages.specs.contracts.diagnostic.Diagnostic as Diagnostic
use Rattle.hm_service_messages.specs.contracts.diagnostic.Edit as Edit
use Rattle.hm_service_messages.specs.contracts.diagnostic.Told as Told
use Rattle.hm_service_places.specs.contracts.checked.Checked as Checked
use Rattle.hm_service.specs.contracts.earlier.Checks as Checks

finished_field_send : IsSend Finished.the_field.row
finished_field_send = search (store_send, module_send, module_sync, records_field_send, crosses, sendable) depth 30 fits 5000

position_send : IsSend Position.the_row
position_send = search (crosses, sendable) depth 30 fits 5000

position_field_send : IsSend Position.the_field.row
position_field_send = search (crosses, sendable) depth 30 fits 5000

range_send : IsSend Range.the_row
range_send = search (position_send, position_field_send, crosses, sendable) depth 30 fits 5000

range_field_send : IsSend Range.the_field.row
range_field_send = search (position_send, position_field_send, crosses, sendable) depth 30 fits 5000

edit_send : IsSend Edit.the_row
edit_send = search (position_send, position_field_send, crosses, sendable) depth 30 fits 5000

edit_field_send : IsSend Edit.the_field.row
edit_field_send = search (position_send, position_field_send, crosses, sendable) depth 30 fits 5000

diagnostic_send : IsSend Diagnostic.the_row
diagnostic_send = search (position_send, position_field_send, range_send, range_field_send, edit_send, edit_field_send, crosses, sendable) depth 30 fits 5000

diagnostic_field_send : IsSend Diagnostic.the_field.row
diagnostic_field_send = search (position_send, position_field_send, range_send, range_field_send, edit_send, edit_field_send, crosses, sendable) depth 30 fits 5000

told_send : IsSend Told.the_row
told_send = search (diagnostic_send, diagnostic_field_send, crosses, sendable) depth 30 fits 5000

told_field_send : IsSend Told.the_field.row
told_field_send = search (diagnostic_send, diagnostic_field_send, crosses, sendable) depth 30 fits 5000

pub checked_send : IsSend Checked.the_row
checked_send = search (finished_field_send, told_send, told_field_send, crosses, sendable) depth 30 fits 5000

position_sync : IsSync Position.the_row
position_sync = search (crosses, sendable) depth 30 fits 5000

position_field_sync : IsSync Position.the_field.row
position_field_sync = search (crosses, sendable) depth 30 fits 5000

range_sync : IsSync Range.the_row
range_sync = search (position_field_sync, crosses, sendable) depth 30 fits 5000

range_field_sync : IsSync Range.the_field.row
range_field_sync = search (position_field_sync, crosses, sendable) depth 30 fits 5000

edit_sync : IsSync Edit.the_row
edit_sync = search (position_sync, position_field_sync, crosses, sendable) depth 30 fits 5000

edit_field_sync : IsSync Edit.the_field.row
edit_field_sync = search (position_sync, position_field_sync, crosses, sendable) depth 30 fits 5000

diagnostic_sync : IsSync Diagnostic.the_row
diagnostic_sync = search (position_sync, position_field_sync, range_sync, range_field_sync, edit_sync, edit_field_sync, crosses, sendable) depth 30 fits 5000

told_sync : IsSync Told.the_row
told_sync = search (diagnostic_sync, crosses, sendable) depth 30 fits 5000

told_field_sync : IsSync Told.the_field.row
told_field_sync = search (diagnostic_sync, crosses, sendable) depth 30 fits 5000

finished_field_sync : IsSync Finished.the_field.row
finished_field_sync = search (store_sync, module_send, module_sync, records_field_sync, crosses, sendable) depth 30 fits 5000

checked_sync : IsSync Checked.the_row
checked_sync = search (finished_field_sync, told_sync, told_field_sync, crosses, sendable) depth 30 fits 5000

pub checks_sync : (κ : NamedLft) → IsSync (Checks.the_row κ)
checks_sync κ = search (checked_sync, crosses, sendable) depth 30 fits 5000
