use Rattle.std.proofs.Common.{rules, ◌≡◌, ◌∙◌, string_bytes}
use Rattle.hm_service_messages.proofs.spots.bound_in.Goals as goal

pub returns : goal.returns
returns c =
    let around = c.in-Some.around in
    let same : c.args.text.now ≡ string_bytes c.in_ok-again.again = search rules in
    (around.before.now, (around.after.now, same ∙ c.in_ok-again.ensures))
