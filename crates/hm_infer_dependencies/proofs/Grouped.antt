-- The groups of a list's graph, as groups of its names.
use Rattle.std.proofs.Common.{◌≡◌, ℕ, zero, suc, ◌<◌, List, [], ◌∷◌, ◌++◌, length, get_or, take, Contains, ◌⊎◌, ⊎_elim, inl, inr, refl, sym, ap, ◌∙◌, subst, ◌↔◌, arith, length-append, append_assoc}
use Rattle.std.specs.List.{concat}
use Rattle.std.proofs.Math.Seq.{take-append_seam, get_or-append_seam}
use Rattle.hm_graph_components.specs.Digraph.{Graph, Reaches, IsNext, AreGroups}
use Rattle.hm_graph_components.proofs.Members.{concat_push}
use Rattle.hm_typing.specs.Names.{Identifier, IsOneOf}
use Rattle.hm_typing.specs.Syntax.{Bindings}
use Rattle.hm_typing.specs.Units.{Reaches as DependsOn_}
use Rattle.hm_typing.specs.Orders.{NumberedGroup, NumberedInOrder}
use Rattle.hm_infer_dependencies.proofs.Walking.{among-left, among-right}

-- membership by place, and by cases

pub contains_one : (xs : List ℕ) (x : ℕ) → Contains xs x ↔ IsOneOf x xs
contains_one [] x = ((λ c. omega (arith, c.1)), (λ o. absurd o))
contains_one (y ∷ ys) x =
    let h = contains_one ys x in (
      (λ c. at c.0 c.1 c.2),
      (λ o. ⊎_elim (λ e. (zero, omega arith, sym e)) (λ k. let c = h.1 k in (suc c.0, (let l = c.1 in omega arith), c.2)) o),
    )
  where
    at : (i : ℕ) → i < length (y ∷ ys) → get_or (y ∷ ys) i x ≡ x → (x ≡ y) ⊎ IsOneOf x ys
    at zero l e = inl (sym e)
    at (suc i) l e = inr (within ys i (omega (arith, l)) e)
      where
        within : (zs : List ℕ) (i : ℕ) → i < length zs → get_or zs i x ≡ x → IsOneOf x zs
        within [] i l e = absurd (omega arith)
        within (z ∷ zs) zero l e = inl (sym e)
        within (z ∷ zs) (suc i) l e = inr (within zs i (omega (arith, l)) e)

in_some : (gs : List (List ℕ)) (x : ℕ) → IsOneOf x (concat gs) → (g : List ℕ) × IsOneOf g gs × IsOneOf x g
in_some [] x o = absurd o
in_some (g ∷ gs) x o = ⊎_elim (λ a. (g, inl refl, a)) (λ a. let h = in_some gs x a in (h.0, inr h.1, h.2)) (Rattle.hm_infer_dependencies.proofs.Walking.among-cases x g (concat gs) o)

module _ (graph : Graph) (groups : List (List ℕ)) (are : AreGroups graph groups) (ds : Bindings) (name : ℕ → Identifier) (n : ℕ) (size : length graph ≡ n)
    (there : (x y : ℕ) → x < n → y < n → Reaches graph x y → DependsOn_ ds (name x) (name y)) (back : (x y : ℕ) → x < n → y < n → DependsOn_ ds (name x) (name y) → (x ≡ y) ⊎ Reaches graph x y) where
  group_at : (before g : List ℕ) → IsNext graph before g → NumberedGroup ds name n before g
  group_at before g next = record {
    first = next.least;
    number = low;
    absent = λ o. next.may_come.absent ((contains_one before next.least).1 o);
    after = λ y l r. ⊎_elim
        (λ e. inr (subst (λ z. DependsOn_ ds (name z) (name next.least)) e (subst (λ z. DependsOn_ ds (name next.least) (name z)) (sym e) r)))
        (λ q. ⊎_elim (λ c. inl ((contains_one before y).0 c)) (λ q. inr (there y next.least l low q)) (next.may_come.after y q))
        (back next.least y low l r);
    members = λ y. (
      (λ o.
          let m = (next.group_of.members y).0 ((contains_one g y).1 o) in
          let l : y < n = subst (λ z. y < z) size m.0 in
          (l, ⊎_elim inl (λ r. inr (there next.least y low l r.0, there y next.least l low r.1)) m.1)),
      (λ h. (contains_one g y).0 ((next.group_of.members y).1 (
        subst (λ z. y < z) (sym size) h.0,
        ⊎_elim inl
            (λ r. ⊎_elim inl (λ p. ⊎_elim (λ e. inl (sym e)) (λ q. inr (p, q)) (back y next.least h.0 low r.1)) (back next.least y low h.0 r.0))
            h.1,
      ))),
    );
  }
    where
      low : next.least < n
      low = subst (λ z. next.least < z) size next.may_come.node

  in_order : (done rest : List (List ℕ)) → done ++ rest ≡ groups → NumberedInOrder ds name n (concat done) rest
  in_order done [] e = tt
  in_order done (g ∷ gs) e = (
    group_at (concat done) g (subst (λ b. IsNext graph b g) here (subst (λ z. IsNext graph (concat (take (length done) groups)) z) at (are.each (length done) low))),
    subst (λ b. NumberedInOrder ds name n b gs) (concat_push done g) (in_order (done ++ g ∷ []) gs (append_assoc done (g ∷ []) gs ∙ e)),
  )
    where
      low : length done < length groups
      low = let h = ap length e in let k = length-append done (g ∷ gs) in omega arith

      at : get_or groups (length done) [] ≡ g
      at = ap (λ z. get_or z (length done) []) (sym e) ∙ get_or-append_seam done g gs []

      here : concat (take (length done) groups) ≡ concat done
      here = ap concat (ap (take (length done)) (sym e) ∙ take-append_seam done (g ∷ gs))

  pub numbered_in_order : NumberedInOrder ds name n [] groups
  numbered_in_order = in_order [] groups refl

  pub numbered_all : (i : ℕ) → i < n → (g : List ℕ) × IsOneOf g groups × IsOneOf i g
  numbered_all i l = in_some groups i ((contains_one (concat groups) i).0 (are.all i (subst (λ z. i < z) (sym size) l)))
