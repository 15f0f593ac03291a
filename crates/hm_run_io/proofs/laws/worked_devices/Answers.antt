use Rattle.hm_run_io.proofs.WorkedDevices as rows
use Rattle.hm_run_io.proofs.laws.worked_devices.Goals as goal

pub returns : goal.returns
returns c = record { readers = rows.readers; writer = rows.writer }
