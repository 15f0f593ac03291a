-- The parts of expressions with their guards.
use Rattle.std.proofs.Common.{◌≡◌, List, [], ◌∷◌, ◌++◌, Option, None, Some, refl, sym, ap, ◌∙◌, append_assoc, append-nil}
use Rattle.hm_syntax.specs.Trees.{Expression}
use Rattle.hm_syntax.specs.Lists.{bodies}
use Rattle.hm_messages_details.specs.Parts.{ModulePart, an_end, ended, expression_parts, bodies_parts, bodies_of_parts}

pub bodies_are : (ps : List (Option Expression × Expression)) → bodies_of_parts ps ≡ bodies_parts (bodies ps)
bodies_are [] = refl
bodies_are ((None, e) ∷ ps) = ap (λ z. expression_parts e ++ z) (bodies_are ps)
bodies_are ((Some g, e) ∷ ps) = append_assoc (expression_parts g) (expression_parts e) (bodies_of_parts ps) ∙ ap (λ z. expression_parts g ++ (expression_parts e ++ z)) (bodies_are ps)

-- two calls add their parts one after the other
pub both_added : (old middle new one two : List ModulePart) → middle ≡ old ++ one → new ≡ middle ++ two → new ≡ old ++ (one ++ two)
both_added old middle new one two first second = second ∙ (ap (λ (l : List ModulePart). l ++ two) first ∙ append_assoc old one two)

-- the same, of what the calls got, which is what the tree has there
pub both_of : {X Y : Type 0} (f : X → List ModulePart) (g : Y → List ModulePart) (old middle new : List ModulePart) (x x' : X) (y y' : Y) → x ≡ x' → y ≡ y' → middle ≡ old ++ f x → new ≡ middle ++ g y → new ≡ old ++ (f x' ++ g y')
both_of f g old middle new x x' y y' one two first second =
    both_added old middle new (f x) (g y) first second ∙ (ap (λ z. old ++ (f z ++ g y)) one ∙ ap (λ z. old ++ (f x' ++ g z)) two)

-- the same, of parts in a scope and its end
pub in_scope : {X Y : Type 0} (f : X → List ModulePart) (g : Y → List ModulePart) (old middle last new : List ModulePart) (x x' : X) (y y' : Y) → x ≡ x' → y ≡ y' → middle ≡ old ++ f x → last ≡ middle ++ g y → new ≡ last ++ an_end ∷ [] → new ≡ old ++ (f x' ++ ended (g y'))
in_scope f g old middle last new x x' y y' one two first second third =
    both_of f (λ z. ended (g z)) old middle new x x' y y' one two first (both_added middle last new (g y) (an_end ∷ []) second third)

-- the step of a loop over a row
pub row_more : (old new one rest all whole : List ModulePart) → all ≡ one ++ rest → old ++ all ≡ whole → new ≡ old ++ one → new ++ rest ≡ whole
row_more old new one rest all whole is before step =
    ap (λ (l : List ModulePart). l ++ rest) step ∙ (append_assoc old one rest ∙ (ap (λ (l : List ModulePart). old ++ l) (sym is) ∙ before))

-- its end: no element is left
pub row_end : (new rest whole : List ModulePart) → rest ≡ [] → new ++ rest ≡ whole → new ≡ whole
row_end new rest whole none before = sym (append-nil new) ∙ (ap (λ (l : List ModulePart). new ++ l) (sym none) ∙ before)
