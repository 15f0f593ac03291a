use Rattle.std.proofs.Common.{◌≡◌, ◌<◌, ◌≤◌, ℕ, get_or}
use Rattle.hm_messages_json.specs.declared.message.Level.TheVariants.{Note}
use Rattle.hm_service_messages.specs.declared.diagnostic.Diagnostic.{Diagnostic}
use Rattle.hm_service_candidates.proofs.candidates.end_of_notes.Given as goal

abbrev pub invariant-messages : goal.invariant-messages
invariant-messages l = (i : ℕ) (d : Diagnostic) → l.from ≤ i → i < l.index → (get_or l.told i d).level ≡ Note
