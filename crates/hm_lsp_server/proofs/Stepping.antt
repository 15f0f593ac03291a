-- What follows from the outcome of a session.
use Rattle.std.proofs.Common.{◌≡◌, ℕ, List, subst, sym}
use Rattle.hm_lsp_session.specs.Files.{watches_files}
use Rattle.hm_lsp_session.specs.declared.session.Outcome.{Outcome}
use Rattle.hm_lsp_session.specs.declared.session.Session.{Session}
use Rattle.hm_lsp_server.specs.Steps.{FollowsFrom, IsSessionStep, IsSteppedBy}
use Rattle.hm_lsp_server.specs.declared.taken.Taken.{Taken}

-- an outcome is this one, from which that follows
pub stepped : (body : List ℕ) (before after : Session) (out is : Outcome) (taken : Taken) → IsSessionStep body before after out → out ≡ is → FollowsFrom (watches_files after) is taken → IsSteppedBy body before after taken
stepped body before after out is taken step same follows = (out, (step, subst (λ o. FollowsFrom (watches_files after) o taken) (sym same) follows))

-- the same if the session isn't another afterwards
pub stepped_still : (body : List ℕ) (before after later : Session) (out is : Outcome) (taken : Taken) → IsSessionStep body before after out → out ≡ is → FollowsFrom (watches_files after) is taken → later ≡ after
    → IsSteppedBy body before later taken
stepped_still body before after later out is taken step same follows kept = subst (λ s. IsSteppedBy body before s taken) (sym kept) (stepped body before after out is taken step same follows)
