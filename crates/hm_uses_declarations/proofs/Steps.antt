-- Steps of the walk.
use Rattle.std.proofs.Common.{◌≡◌, ℕ, ◌+◌, ◌<◌, List, [], ◌∷◌, ◌++◌, length, drop, get_or, Option, None, Some, refl, sym, ap, ap₂, ◌∙◌, append_assoc}
use Rattle.hm_syntax.specs.Names.{Identifier}
use Rattle.hm_syntax.specs.Trees.{Expression, Declaration, Alternative, alternative}
use Rattle.hm_syntax.specs.Lists.{bodies, declarations, alternatives}
use Rattle.hm_names.proofs.Rows.{unrolled}
use Rattle.hm_uses.specs.Scopes.{Around, at_top}
use Rattle.hm_uses.specs.Uses.{UseOf}
use Rattle.hm_uses.specs.Found.{Known, expression_uses, bodies_uses, declarations_uses, alternatives_uses}
use Rattle.hm_uses_declarations.specs.Walking.{Walking, adding, entering, leaving, parts_uses, all_of, home_of, alternative_uses}

pub adding_more : (us vs : List UseOf) (w : Walking) → adding vs (adding us w) ≡ adding (us ++ vs) w
adding_more us vs w = ap (λ (l : List UseOf). record w { found = l }) (append_assoc w.found us vs)

pub parts_are : (k : Known) (xs : Around) (ps : List (Option Expression × Expression)) → parts_uses k xs ps ≡ bodies_uses k xs (bodies ps)
parts_are k xs [] = refl
parts_are k xs ((None, e) ∷ ps) = ap (λ z. expression_uses k xs e ++ z) (parts_are k xs ps)
parts_are k xs ((Some g, e) ∷ ps) = ap (λ z. (expression_uses k xs g ++ expression_uses k xs e) ++ z) (parts_are k xs ps)

-- two parts in the scope of a list of binders
pub scoped : (f g : Known → List (List Identifier) → List UseOf) (vs : List Identifier) (w inside after last left : Walking) → inside ≡ entering vs w → after ≡ adding (f inside.known inside.groups) inside
    → last ≡ adding (g after.known after.groups) after → left ≡ leaving last → left ≡ adding (f w.known (vs ∷ w.groups) ++ g w.known (vs ∷ w.groups)) w
scoped f g vs w inside after last left i a l e =
    let one : after ≡ adding (f w.known (vs ∷ w.groups)) (entering vs w) = a ∙ ap (λ (v : Walking). adding (f v.known v.groups) v) i in
    let two : last ≡ adding (g w.known (vs ∷ w.groups)) (adding (f w.known (vs ∷ w.groups)) (entering vs w)) = l ∙ ap (λ (v : Walking). adding (g v.known v.groups) v) one in
    e ∙ (ap leaving two ∙ ap (λ (us : List UseOf). record w { found = us }) (append_assoc w.found (f w.known (vs ∷ w.groups)) (g w.known (vs ∷ w.groups))))

-- what one turn over a row keeps
pub row_more : {X : Type 0} (f : Known → List (List Identifier) → X → List UseOf) (fs : Known → List (List Identifier) → List X → List UseOf) → ((k : Known) (gs : List (List Identifier)) (x : X) (rest : List X) → fs k gs (x ∷ rest) ≡ f k gs x ++ fs k gs rest)
    → (row : List X) (i : ℕ) (d : X) (w after start : Walking) → i < length row → d ≡ get_or row i d → after ≡ adding (f w.known w.groups d) w → w.known ≡ start.known → w.groups ≡ start.groups
    → adding (fs start.known start.groups (drop i row)) w ≡ adding (fs start.known start.groups row) start → adding (fs start.known start.groups (drop (i + 1) row)) after ≡ adding (fs start.known start.groups row) start
row_more {X} f fs opens row i d w after start h e state kn gr l =
    let all : List X → List UseOf = fs start.known start.groups in
    let rest : List X = drop (i + 1) row in
    let added : f w.known w.groups d ≡ f start.known start.groups d = ap₂ (λ k gs. f k gs d) kn gr in
    ap (adding (all rest)) (state ∙ ap (λ us. adding us w) added)
    ∙ (adding_more (f start.known start.groups d) (all rest) w ∙ (ap (λ us. adding us w) (sym (ap all (unrolled row i d h e) ∙ opens start.known start.groups d rest)) ∙ l))

pub alternatives_open : (k : Known) (gs : List (List Identifier)) (b : Alternative) (rest : List Alternative) → alternatives_uses k (all_of gs) (alternatives (b ∷ rest)) ≡ alternative_uses k (all_of gs) b ++ alternatives_uses k (all_of gs) (alternatives rest)
unfolding alternative_uses
alternatives_open k gs (alternative p r) rest = refl

-- the walk over a whole module
pub found_in_module : (k : Known) (ds xs : List Declaration) (start last : Walking) (us : List UseOf) → start ≡ record { known = k; groups = []; found = [] } → xs ≡ ds
    → last ≡ adding (declarations_uses start.known (all_of start.groups) (home_of start.groups) (declarations xs)) start → us ≡ last.found → us ≡ declarations_uses k [] at_top (declarations ds)
found_in_module k ds xs start last us s e l u =
    u ∙ ap (λ (w : Walking). w.found) (l ∙ ap₂ (λ (w : Walking) (zs : List Declaration). adding (declarations_uses w.known (all_of w.groups) (home_of w.groups) (declarations zs)) w) s e)
