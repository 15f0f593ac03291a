-- The position and the range of a request.
use Rattle.std.proofs.Common.{rules, ◌≡◌, Option, Some, None, IfNone, IfSome, codes, sym, ap, subst, ◌∙◌}
use Rattle.serde_json.specs.Data.{Data, null}
use Rattle.serde_json.specs.Find.{pointer}
use Rattle.serde_json.specs.View.{view}
use Rattle.serde_json.specs.declared.value.Value.{Null, the_lemmas}
use Rattle.hm_lsp_positions.specs.declared.changes.Range.{Range}
use Rattle.hm_lsp_positions.specs.declared.positions.Position.{Position}
use Rattle.hm_lsp_session.specs.Params.{IsPositionIn, IsRangeIn}
use Rattle.hm_lsp_results.specs.Results.{HasPosition, HasRange}

value_in : Option Data → Data
value_in None = null
value_in (Some d) = d

same_value : (d e : Data) (found : Option Data) → found ≡ Some d → found ≡ Some e → d ≡ e
unfolding value_in
same_value d e found one other = ap value_in (sym one ∙ other)

pub has_position : (request d : Data) (found : Option Position) → pointer (codes "/params/position") request ≡ Some d → IfSome found (λ p. IsPositionIn d p) → IfNone found ((p : Position) → ¬ (IsPositionIn d p)) → HasPosition request found
has_position request d (Some p) at some none = (d, at, some)
has_position request d None at some none = λ e p is h. none p (subst (λ x. IsPositionIn x p) (sym (same_value d e (pointer (codes "/params/position") request) at is)) h)

pub has_range : (request d : Data) (found : Option Range) → pointer (codes "/params/range") request ≡ Some d → IfSome found (λ r. IsRangeIn d r) → IfNone found ((r : Range) → ¬ (IsRangeIn d r)) → HasRange request found
has_range request d (Some r) at some none = (d, at, some)
has_range request d None at some none = λ e r is h. none r (subst (λ x. IsRangeIn x r) (sym (same_value d e (pointer (codes "/params/range") request) at is)) h)

pub null_is : view Null ≡ null
null_is = search (rules, the_lemmas)
