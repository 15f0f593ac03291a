-- Lists of applied names that grow at their end.
use Rattle.std.proofs.Common.{◌≡◌, List, [], ◌∷◌, ◌++◌, Option, None, Some, refl, sym, ap, ◌∙◌, append_assoc, append-nil}
use Rattle.hm_syntax.specs.Trees.{Expression}
use Rattle.hm_syntax.specs.Lists.{bodies}
use Rattle.hm_messages_arguments.specs.Applied.{Applied, applied_to, bodies_applied, bodies_of_applied}

pub bodies_are : (ps : List (Option Expression × Expression)) → bodies_of_applied ps ≡ bodies_applied (bodies ps)
bodies_are [] = refl
bodies_are ((None, e) ∷ ps) = ap (λ z. applied_to 0 e ++ z) (bodies_are ps)
bodies_are ((Some g, e) ∷ ps) = append_assoc (applied_to 0 g) (applied_to 0 e) (bodies_of_applied ps) ∙ ap (λ z. applied_to 0 g ++ (applied_to 0 e ++ z)) (bodies_are ps)

-- two calls add their names one after the other
pub both_added : (old middle new one two : List Applied) → middle ≡ old ++ one → new ≡ middle ++ two → new ≡ old ++ (one ++ two)
both_added old middle new one two first second = second ∙ (ap (λ (l : List Applied). l ++ two) first ∙ append_assoc old one two)

-- the same, of what the calls got, which is what the tree has there
pub both_of : {X Y : Type 0} (f : X → List Applied) (g : Y → List Applied) (old middle new : List Applied) (x x' : X) (y y' : Y) → x ≡ x' → y ≡ y' → middle ≡ old ++ f x → new ≡ middle ++ g y → new ≡ old ++ (f x' ++ g y')
both_of f g old middle new x x' y y' one two first second =
    both_added old middle new (f x) (g y) first second ∙ (ap (λ z. old ++ (f z ++ g y)) one ∙ ap (λ z. old ++ (f x' ++ g z)) two)

-- the step of a loop over a row
pub row_more : (old new one rest all whole : List Applied) → all ≡ one ++ rest → old ++ all ≡ whole → new ≡ old ++ one → new ++ rest ≡ whole
row_more old new one rest all whole is before step =
    ap (λ (l : List Applied). l ++ rest) step ∙ (append_assoc old one rest ∙ (ap (λ (l : List Applied). old ++ l) (sym is) ∙ before))

-- its end: no element is left
pub row_end : (new rest whole : List Applied) → rest ≡ [] → new ++ rest ≡ whole → new ≡ whole
row_end new rest whole none before = sym (append-nil new) ∙ (ap (λ (l : List Applied). new ++ l) (sym none) ∙ before)
