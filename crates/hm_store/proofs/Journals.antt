-- One entry more.
use Rattle.std.proofs.Common.{◌≡◌, List, [], ◌∷◌, ◌++◌}
use Rattle.std.proofs.lemmas.List.Sums.{fold-append}
use Rattle.hm_store.specs.Plans.{Given}
use Rattle.hm_store.specs.Objects.{State, after, Allowed, AllowedFrom, state_from, state_after, opening}
use Rattle.hm_store.specs.declared.object.Entry.{Entry}

pub allowed_more : (g : Given) (s : State) (es : List Entry) (e : Entry) → AllowedFrom g s es → Allowed g (state_from g s es) e → AllowedFrom g s (es ++ e ∷ [])
allowed_more g s [] e h a = (a, tt)
allowed_more g s (x ∷ es) e h a = (h.0, allowed_more g (after g s x) es e h.1 a)

pub state_more : (g : Given) (es : List Entry) (e : Entry) → state_after g (es ++ e ∷ []) ≡ after g (state_after g es) e
state_more g es e = fold-append (after g) (opening g) es (e ∷ [])
