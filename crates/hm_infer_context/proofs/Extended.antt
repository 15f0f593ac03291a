-- More is assumed, inside what was.
use Rattle.std.proofs.Common.{◌≡◌, List, [], ◌++◌, sym, ap, ◌∙◌, append_assoc}
use Rattle.hm_infer_context.specs.Environments.{Assumed, Extends}

pub extended : (es es1 es2 : List Assumed) → Extends es es1 → Extends es1 es2 → Extends es es2
extended es es1 es2 a b = (b.0 ++ a.0, b.1 ∙ (ap (λ z. b.0 ++ z) a.1 ∙ sym (append_assoc b.0 a.0 es)))

pub kept_on : (es es1 es2 : List Assumed) → Extends es es1 → es2 ≡ es1 → Extends es es2
kept_on es es1 es2 a e = (a.0, e ∙ a.1)

pub kept_behind : (es es1 es2 : List Assumed) → es1 ≡ es → Extends es1 es2 → Extends es es2
kept_behind es es1 es2 e a = (a.0, a.1 ∙ ap (λ z. a.0 ++ z) e)

pub kept_same : (es es1 : List Assumed) → es1 ≡ es → Extends es es1
kept_same es es1 e = ([], e)
