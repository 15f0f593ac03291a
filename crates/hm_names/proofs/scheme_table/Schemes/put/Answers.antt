use Rattle.std.proofs.Common.{string_bytes}
use Rattle.hm_names.proofs.Assigned.{put_in}
use Rattle.hm_names.proofs.scheme_table.Schemes.put.Goals as goal

pub returns-clause-given : goal.returns-clause-given
returns-clause-given c =
    put_in c.self.inside.table c.insert.new.self (string_bytes c.in_ok-key.key) c.args.name.now c.args.scheme c.args.self.now c.in_ok-insert.ensures.updates c.in_ok-key.ensures.ok c.self.view_is
