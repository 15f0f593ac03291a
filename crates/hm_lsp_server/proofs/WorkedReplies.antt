-- Worked examples of replies.
use Rattle.std.proofs.Common.{◌≡◌, ℕ, List, [], ◌∷◌, refl}
use Rattle.serde_json.specs.Data.{Data, Members, null, object}
use Rattle.serde_json.specs.declared.value.Value.{Value}
use Rattle.hm_lsp_server.specs.Replied.{IsOneReply}
use Rattle.hm_lsp_server.specs.declared.taken.Taken.TheVariants.{Ended, Nothing as TakenNothing, Request}
use Rattle.hm_lsp_server.specs.Worked.{OutcomesRow, RepliesRow, TakenRow}

some : (d : Data) (ds : List Data) → d ∷ ds ≡ [] → ⊥
some d ds e = cc

missing : (id : Data) → IsOneReply id [] → ⊥
missing id (r, e, t) = cc

pub worked_replies : RepliesRow
worked_replies = record {
  notification = refl;
  not_replied = some null [];
  not_missing = missing;
}

no_object : (ms : Members) → null ≡ object ms → ⊥
no_object ms e = cc

pub worked_taken : TakenRow
worked_taken = record { ended = refl; not_other = λ s body h. no_object _ h.whole }

no_request : (r : Value) → TakenNothing ≡ Request r → ⊥
no_request r e = cc

no_end : (status : ℕ) → Ended status ≡ TakenNothing → ⊥
no_end status e = cc

pub worked_outcomes : OutcomesRow
worked_outcomes = record { silent = refl; not_silent = λ (r, is). no_request r is; not_ended = no_end 0 }
