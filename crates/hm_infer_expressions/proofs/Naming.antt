-- The names of a group are bound, one after the other.
use Rattle.std.proofs.Common.{◌≡◌, ℕ, zero, suc, ◌+◌, ◌<◌, ◌≤◌, List, [], ◌∷◌, ◌++◌, take, length, get_or, Option, Some, None, inl, inr, ◌⊎◌, ⊎_elim, ◌↔◌, refl, sym, ap, ◌∙◌, subst, arith}
use Rattle.std.specs.List.{slice_get}
use Rattle.std.proofs.lemmas.List.{take_more, take_all, map-append}
use Rattle.hm_types.specs.Types.{Var, In, put}
use Rattle.hm_types.specs.Monotypes.{var}
use Rattle.hm_typing.specs.Names.{Identifier, local, global, binding, IsOneOf}
use Rattle.hm_typing.specs.Schemes.{Monotype, Scheme, SchemeVariable, Free, Quantified, fill, IsInstance, scheme_put, monomorphic}
use Rattle.hm_typing.specs.Assumptions.{Assumptions, Has, assumptions_put}
use Rattle.hm_typing.specs.Generalisation.{quantify}
use Rattle.hm_typing.proofs.Names.{name_discrete}
use Rattle.hm_typing.proofs.Types.{put-agree, put-put}
use Rattle.hm_typing.proofs.SchemeLaws.{instance_put}
use Rattle.hm_syntax.specs.Trees.{Declarations}
use Rattle.hm_names.specs.Syntax.{Known}
use Rattle.hm_infer_dependencies.specs.Groups.{node_name, node_names}
use Rattle.hm_infer_dependencies.specs.Nodes.{list_nodes}
use Rattle.hm_names_keys.specs.Variables.{Variable, identifier}
use Rattle.hm_infer_dependencies.proofs.Named.{IsOwnName, AllFit, names_fit, fit_variable}
use Rattle.std.proofs.lemmas.Option.{get_or_from_slice_get}
use Rattle.hm_infer_context.specs.Environments.{Assumed, OpenScheme, assumptions, scheme_in}
use Rattle.hm_infer_generalisation.specs.Generalisations.{IsGeneralisation, renumbered}
use Rattle.hm_infer_expressions.specs.Lists.{IsWritten}
use Rattle.hm_infer_expressions.specs.GroupQuestions.{type_at}
use Rattle.hm_infer_expressions.specs.BoundNames.{SameInstances, Binds, BindsNode, BindsTypes, BindsSchemes, names_at}
use Rattle.hm_infer_expressions.proofs.Generality.{quantified_in}
use Rattle.hm_infer_context.proofs.OpenedFunctions.{mono_scheme}

-- A closure with other numbers has the same instances, whatever is put for the free variables

pub closure_instances : (A : Assumptions) (t : Monotype) (σ : Scheme) → IsGeneralisation A t σ → SameInstances σ (quantify A t)
closure_instances A t σ g r u = (
  (λ i. (
    (λ a. i.0 (g.slots a)),
    i.1 ∙ (instance_put r i.0 σ ∙ (ap (put (fill r i.0)) g.whole ∙ (put-put (fill r i.0) (renumbered g.slots) (quantify A t) ∙ (put-agree _ _ (quantify A t) (λ v j. there i.0 v) ∙ sym (instance_put r (λ a. i.0 (g.slots a)) (quantify A t)))))),
  )),
  (λ i. (
    (λ k. i.0 (g.back k)),
    i.1 ∙ (instance_put r i.0 (quantify A t) ∙ sym (instance_put r (λ k. i.0 (g.back k)) σ ∙ (ap (put (fill r (λ k. i.0 (g.back k)))) g.whole ∙ (put-put (fill r (λ k. i.0 (g.back k))) (renumbered g.slots) (quantify A t) ∙ put-agree _ _ (quantify A t) (λ v j. back i.0 v j))))),
  )),
)
  where
    there : (us : ℕ → Monotype) (v : SchemeVariable) → put (fill r us) (renumbered g.slots v) ≡ fill r (λ a. us (g.slots a)) v
    there us (Free a) = refl
    there us (Quantified a) = refl

    back : (us : ℕ → Monotype) (v : SchemeVariable) → In v (quantify A t) → put (fill r (λ k. us (g.back k))) (renumbered g.slots v) ≡ fill r us v
    back us (Free a) i = refl
    back us (Quantified a) i = let h = quantified_in A t a i in ap us (g.undone a h.0 h.1)

pub same_scheme : (σ ρ : Scheme) → σ ≡ ρ → SameInstances σ ρ
same_scheme σ ρ e r t = ((λ i. subst (λ z. IsInstance t (scheme_put r z)) e i), (λ i. subst (λ z. IsInstance t (scheme_put r z)) (sym e) i))

-- Names that are bound

pub binds_none : (σ : Identifier → Scheme) (es : List Assumed) → Binds [] σ es es
binds_none σ es = record { added = []; entries = refl; inside = λ r x w o t. absurd o; outside = λ r x w n t. ((λ h. h), (λ h. h)) }

one_left : (x : Identifier) (xs ys : List Identifier) → IsOneOf x xs → IsOneOf x (xs ++ ys)
one_left x [] ys o = absurd o
one_left x (z ∷ xs) ys (inl e) = inl e
one_left x (z ∷ xs) ys (inr o) = inr (one_left x xs ys o)

one_last : (x y : Identifier) (xs : List Identifier) → IsOneOf x (xs ++ y ∷ []) → IsOneOf x xs ⊎ (x ≡ y)
one_last x y [] (inl e) = inr e
one_last x y [] (inr o) = absurd o
one_last x y (z ∷ xs) (inl e) = inl (inl e)
one_last x y (z ∷ xs) (inr o) = ⊎_elim (λ h. inl (inr h)) inr (one_last x y xs o)

last_one : (y : Identifier) (xs : List Identifier) → IsOneOf y (xs ++ y ∷ [])
last_one y [] = inl refl
last_one y (z ∷ xs) = inr (last_one y xs)

pub binds_more : (xs : List Identifier) (σ : Identifier → Scheme) (es es1 es2 : List Assumed) (y : Identifier) (s : OpenScheme) → Binds xs σ es es1 → es2 ≡ record { name = y; scheme = s } ∷ es1 → SameInstances (scheme_in s) (σ y) → Binds (xs ++ y ∷ []) σ es es2
binds_more xs σ es es1 es2 y s b e same = record {
  added = record { name = y; scheme = s } ∷ b.added;
  entries = e ∙ ap (λ z. record { name = y; scheme = s } ∷ z) b.entries;
  inside = λ r x w o t. subst (λ z. Has (assumptions_put r (assumptions z)) x t ↔ IsInstance t (scheme_put r (σ x))) (sym e) (here r x w o t (name_discrete x y));
  outside = λ r x w n t. subst (λ z. Has (assumptions_put r (assumptions z)) x t ↔ Has (assumptions_put r (assumptions es)) x t) (sym e) (there r x w n t);
}
  where
    here : (r : ℕ → Monotype) (x : Identifier) → IsWritten x → IsOneOf x (xs ++ y ∷ []) → (t : Monotype) → Dec (x ≡ y) →
        (((x ≡ y) × IsInstance t (scheme_put r (scheme_in s))) ⊎ (¬ (x ≡ y) × Has (assumptions_put r (assumptions es1)) x t)) ↔ IsInstance t (scheme_put r (σ x))
    here r x w o t (yes k) = (
      (λ h. subst (λ z. IsInstance t (scheme_put r (σ z))) (sym k) ((same r t).0 (⊎_elim (λ p. p.1) (λ p. absurd (p.0 k)) h))),
      (λ i. inl (k, (same r t).1 (subst (λ z. IsInstance t (scheme_put r (σ z))) k i))),
    )
    here r x w o t (no n) =
        let in_ = ⊎_elim (λ h. h) (λ h. absurd (n h)) (one_last x y xs o) in (
          (λ h. (b.inside r x w in_ t).0 (⊎_elim (λ p. absurd (n p.0)) (λ p. p.1) h)),
          (λ i. inr (n, (b.inside r x w in_ t).1 i)),
        )

    there : (r : ℕ → Monotype) (x : Identifier) → IsWritten x → ¬ (IsOneOf x (xs ++ y ∷ [])) → (t : Monotype) →
        (((x ≡ y) × IsInstance t (scheme_put r (scheme_in s))) ⊎ (¬ (x ≡ y) × Has (assumptions_put r (assumptions es1)) x t)) ↔ Has (assumptions_put r (assumptions es)) x t
    there r x w n t =
        let differs : ¬ (x ≡ y) = λ k. n (subst (λ z. IsOneOf z (xs ++ y ∷ [])) (sym k) (last_one y xs)) in
        let out : ¬ (IsOneOf x xs) = λ o. n (one_left x xs (y ∷ []) o) in (
          (λ h. (b.outside r x w out t).0 (⊎_elim (λ p. absurd (differs p.0)) (λ p. p.1) h)),
          (λ h. inr (differs, (b.outside r x w out t).1 h)),
        )

-- a name that can't be mentioned needn't be bound
pub binds_skipped : (xs : List Identifier) (σ : Identifier → Scheme) (es es1 : List Assumed) (y : Identifier) → Binds xs σ es es1 → ¬ (IsWritten y) → Binds (xs ++ y ∷ []) σ es es1
binds_skipped xs σ es es1 y b n = record {
  added = b.added;
  entries = b.entries;
  inside = λ r x w o t. b.inside r x w (⊎_elim (λ h. h) (λ e. absurd (n (subst IsWritten e w))) (one_last x y xs o)) t;
  outside = λ r x w m t. b.outside r x w (λ o. m (one_left x xs (y ∷ []) o)) t;
}

-- The names of nodes

absurd_none : {X Y : Type 0} {a : X} → None ≡ Some a → Y
absurd_none h = cc

some_one : {X : Type 0} {a b : X} → Some a ≡ Some b → a ≡ b
some_one h = cc

fit_own : (vs : List (Option Variable)) (zs : List Identifier) (j : ℕ) → AllFit vs zs → slice_get vs j ≡ Some None → (z : Identifier) × (slice_get zs j ≡ Some z) × IsOwnName z
fit_own [] zs j f e = absurd_none e
fit_own (v ∷ vs) [] j f e = absurd f
fit_own (None ∷ vs) (z ∷ zs) zero f e = (z, refl, f.0)
fit_own (Some x ∷ vs) (z ∷ zs) zero f e = absurd_none (sym (some_one e))
fit_own (v ∷ vs) (z ∷ zs) (suc j) f e = fit_own vs zs j f.1 e

not_written : (z : Identifier) → IsOwnName z → ¬ (IsWritten z)
not_written (local x) o w = o
not_written (global x) o w = o
not_written (binding m k) o w = w

pub node_variable : (k : Known) (all : Declarations) (ns : List (Option Variable)) (j : ℕ) (x : Variable) → ns ≡ list_nodes all all → slice_get ns j ≡ Some (Some x) → node_name k all j ≡ identifier x
node_variable k all ns j x e h = get_or_from_slice_get (node_names k all all) j (identifier x) (local []) (fit_variable (list_nodes all all) (node_names k all all) j x (names_fit k all all) (subst (λ z. slice_get z j ≡ Some (Some x)) e h))

pub node_unwritten : (k : Known) (all : Declarations) (ns : List (Option Variable)) (j : ℕ) → ns ≡ list_nodes all all → slice_get ns j ≡ Some None → ¬ (IsWritten (node_name k all j))
node_unwritten k all ns j e h =
    let f = fit_own (list_nodes all all) (node_names k all all) j (names_fit k all all) (subst (λ z. slice_get z j ≡ Some None) e h) in
    subst (λ z. ¬ (IsWritten z)) (sym (get_or_from_slice_get (node_names k all all) j f.0 (local []) f.1)) (not_written f.0 f.2)

-- Groups

one_more : (k : Known) (all : Declarations) (group : List ℕ) (i : ℕ) → i < length group → names_at k all (take (i + 1) group) ≡ names_at k all (take i group) ++ node_name k all (get_or group i 0) ∷ []
one_more k all group i h = ap (names_at k all) (take_more group i 0 h) ∙ map-append (node_name k all) (take i group) (get_or group i 0 ∷ [])

number_left : (x : ℕ) (xs ys : List ℕ) → IsOneOf x xs → IsOneOf x (xs ++ ys)
number_left x [] ys o = absurd o
number_left x (z ∷ xs) ys (inl e) = inl e
number_left x (z ∷ xs) ys (inr o) = inr (number_left x xs ys o)

number_last : (y : ℕ) (xs : List ℕ) → IsOneOf y (xs ++ y ∷ [])
number_last y [] = inl refl
number_last y (z ∷ xs) = inr (number_last y xs)

earlier : (group : List ℕ) (i j : ℕ) → i < length group → IsOneOf j (take i group) → IsOneOf j (take (i + 1) group)
earlier group i j h o = subst (IsOneOf j) (sym (take_more group i 0 h)) (number_left j (take i group) (get_or group i 0 ∷ []) o)

newest : (group : List ℕ) (i : ℕ) → i < length group → IsOneOf (get_or group i 0) (take (i + 1) group)
newest group i h = subst (IsOneOf (get_or group i 0)) (sym (take_more group i 0 h)) (number_last (get_or group i 0) (take i group))

pub types_none : (k : Known) (all : Declarations) (types group : List ℕ) (es : List Assumed) → BindsTypes k all types (take 0 group) es es
types_none k all types group es τ h = binds_none (λ x. monomorphic (τ x)) es

pub types_step : (k : Known) (all : Declarations) (types group : List ℕ) (i : ℕ) (es es1 es2 : List Assumed) → i < length group → BindsTypes k all types (take i group) es es1 →
    BindsNode (node_name k all (get_or group i 0)) (record { quantified = 0; body = Var (var (get_or types (get_or group i 0) 0)) }) es1 es2 → BindsTypes k all types (take (i + 1) group) es es2
types_step k all types group i es es1 es2 l b n τ h =
    subst (λ xs. Binds xs (λ x. monomorphic (τ x)) es es2) (sym (one_more k all group i l))
    (n (names_at k all (take i group)) (λ x. monomorphic (τ x)) es (b τ (λ j o. h j (earlier group i j l o)))
    (same_scheme _ _ (mono_scheme (Var (var (get_or types (get_or group i 0) 0))) ∙ ap monomorphic (sym (h (get_or group i 0) (newest group i l))))))

pub types_all : (k : Known) (all : Declarations) (types group : List ℕ) (i : ℕ) (es es1 : List Assumed) → length group ≤ i → BindsTypes k all types (take i group) es es1 → BindsTypes k all types group es es1
types_all k all types group i es es1 l b = subst (λ g. BindsTypes k all types g es es1) (take_all i group l) b

pub schemes_none : (k : Known) (all : Declarations) (types group : List ℕ) (m : ℕ → Monotype) (A : Assumptions) (es : List Assumed) → BindsSchemes k all types m A (take 0 group) es es
schemes_none k all types group m A es B h = binds_none B es

pub schemes_step : (k : Known) (all : Declarations) (types group : List ℕ) (m : ℕ → Monotype) (A : Assumptions) (i : ℕ) (s : OpenScheme) (es es1 es2 : List Assumed) → i < length group → IsGeneralisation (assumptions_put m A) (put m (type_at types (get_or group i 0))) (scheme_in s) →
    BindsSchemes k all types m A (take i group) es es1 → BindsNode (node_name k all (get_or group i 0)) s es1 es2 → BindsSchemes k all types m A (take (i + 1) group) es es2
schemes_step k all types group m A i s es es1 es2 l g b n B h =
    subst (λ xs. Binds xs B es es2) (sym (one_more k all group i l))
    (n (names_at k all (take i group)) B es (b B (λ j o. h j (earlier group i j l o)))
    (λ r t.
    let c = closure_instances (assumptions_put m A) (put m (type_at types (get_or group i 0))) (scheme_in s) g r t in
    let d = same_scheme (quantify (assumptions_put m A) (put m (type_at types (get_or group i 0)))) (B (node_name k all (get_or group i 0))) (sym (h (get_or group i 0) (newest group i l))) r t in
    ((λ x. d.0 (c.0 x)), (λ x. c.1 (d.1 x)))))

pub schemes_all : (k : Known) (all : Declarations) (types group : List ℕ) (m : ℕ → Monotype) (A : Assumptions) (i : ℕ) (es es1 : List Assumed) → length group ≤ i → BindsSchemes k all types m A (take i group) es es1 → BindsSchemes k all types m A group es es1
schemes_all k all types group m A i es es1 l b = subst (λ g. BindsSchemes k all types m A g es es1) (take_all i group l) b

pub node_bound : (k : Known) (all : Declarations) (ns : List (Option Variable)) (j : ℕ) (x : Variable) (key : Identifier) (s : OpenScheme) (es es1 : List Assumed) → ns ≡ list_nodes all all → slice_get ns j ≡ Some (Some x) → key ≡ identifier x → es1 ≡ record { name = key; scheme = s } ∷ es → BindsNode (node_name k all j) s es es1
node_bound k all ns j x key s es es1 e h f g xs σ base b same =
    let y = node_variable k all ns j x e h in
    subst (λ z. Binds (xs ++ z ∷ []) σ base es1) (f ∙ sym y) (binds_more xs σ base es es1 key s b g (subst (λ z. SameInstances (scheme_in s) (σ z)) (y ∙ sym f) same))

-- an element of a list of numbers
pub in_place : (xs : List ℕ) (i d : ℕ) → i < length xs → IsOneOf (get_or xs i d) xs
in_place [] i d l = absurd (omega arith)
in_place (x ∷ xs) zero d l = inl refl
in_place (x ∷ xs) (suc i) d l = inr (in_place xs i d (omega arith))
