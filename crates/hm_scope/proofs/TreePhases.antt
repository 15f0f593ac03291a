-- The faults that are noted in trees, by the phases to which their kinds belong.
use Rattle.std.proofs.Common.{◌≡◌, Bool, true, false, List, ◌⊎◌, inl, inr, ⊎_elim, ◌↔◌, refl, sym, ap, ◌∙◌}
use Rattle.hm_types.specs.Interfaces.{Exports as Interface}
use Rattle.hm_syntax.specs.Names.{Identifier}
use Rattle.hm_syntax.specs.declared.ast.Module.{Module}
use Rattle.hm_names.specs.declared.faults.Kind.{Kind}
use Rattle.hm_names.specs.declared.faults.Fault.{Fault}
use Rattle.hm_names.specs.Walk.{Locals, Node, Somewhere}
use Rattle.hm_names.specs.Faults.Lists.{ListFault, second_type, second_constructor, second_binding, second_signature, second_parameter, no_binding}
use Rattle.hm_names.specs.Faults.Names.{NameFault, unbound, ambiguous, no_parameter, non_linear}
use Rattle.hm_names.specs.Faults.Arities.{ArityFault, a_type, a_pattern, a_special, another_length}
use Rattle.hm_names.specs.Faults.Phases.{fault, HasFault, Declaring, Naming, Counting}
use Rattle.hm_names.specs.NodeFaults.{NodeFault}
use Rattle.hm_scope.specs.Synonyms.{HasSynonymFault}
use Rattle.hm_scope.specs.PhaseAnswers.{lists_kind, names_kind, numbers_kind}
use Rattle.hm_names.proofs.Somewhere.{some_top}
use Rattle.hm_scope.proofs.Everywhere.{each_top}

-- The kinds of each relation

list_kind : (t : Node) (k : Kind) (n : Identifier) → ListFault t k n → (lists_kind k ≡ true) × ((names_kind k ≡ false) × (numbers_kind k ≡ false))
list_kind t k n (second_type r) = (refl, (refl, refl))
list_kind t k n (second_constructor r) = (refl, (refl, refl))
list_kind t k n (second_binding r) = (refl, (refl, refl))
list_kind t k n (second_signature r) = (refl, (refl, refl))
list_kind t k n (second_parameter r) = (refl, (refl, refl))
list_kind t k n (no_binding c r) = (refl, (refl, refl))

name_kind : (m : Module) (fs : List Interface) (xs : Locals) (t : Node) (k : Kind) (n : Identifier) → NameFault m fs xs t k n → (lists_kind k ≡ false) × ((names_kind k ≡ true) × (numbers_kind k ≡ false))
name_kind m fs xs t k n (unbound u h) = (refl, (refl, refl))
name_kind m fs xs t k n (ambiguous u h) = (refl, (refl, refl))
name_kind m fs xs t k n (no_parameter c h) = (refl, (refl, refl))
name_kind m fs xs t k n (non_linear r) = (refl, (refl, refl))

number_kind : (m : Module) (fs : List Interface) (t : Node) (k : Kind) (n : Identifier) → ArityFault m fs t k n → (lists_kind k ≡ false) × ((names_kind k ≡ false) × (numbers_kind k ≡ true))
number_kind m fs t k n (a_type e d h) = (refl, (refl, refl))
number_kind m fs t k n (a_pattern s e d h) = (refl, (refl, refl))
number_kind m fs t k n (a_special s h) = (refl, (refl, refl))
number_kind m fs t k n (another_length c) = (refl, (refl, refl))

clash : {A : Type 0} (b : Bool) → b ≡ false → b ≡ true → A
clash b f t = absurd (let z : false ≡ true = sym f ∙ t in cc)

-- What is noted of the kinds of one relation is what it says somewhere

module _ (m : Module) (fs : List Interface) (f : Fault) (P : Kind → Identifier → Locals → Node → Type 0) (test : Kind → Bool) where
  abbrev Noted : Locals → Node → Kind → Identifier → Type 0
  Noted xs t k n = ListFault t k n ⊎ (NameFault m fs xs t k n ⊎ ArityFault m fs t k n)

  abbrev At : Type 0
  At = (k : Kind) × ((n : Identifier) × (f ≡ fault k n))

  abbrev Stands : At → Locals → Node → Type 0
  Stands a xs t = P a.0 a.1.0 xs t

  abbrev Said : Type 0
  Said = (k : Kind) × ((n : Identifier) × (Somewhere m (λ xs t. P k n xs t) × (f ≡ fault k n)))

  pub said : ((k : Kind) (n : Identifier) (xs : Locals) (t : Node) → Noted xs t k n → test k ≡ true → P k n xs t) → Somewhere m (NodeFault m fs f) → test f.kind ≡ true → Said
  said out h is =
      let split = each_top (NodeFault m fs f) (λ xs t. (a : At) × Stands a xs t) (λ xs t d. ((d.kind, (d.name, d.is)), out d.kind d.name xs t d.stands (sym (ap (λ (g : Fault). test g.kind) d.is) ∙ is))) m.decls h in
      let some = some_top Stands m.decls split in
      (some.0.0, (some.0.1.0, (some.1, some.0.1.1)))

  pub noted : ((k : Kind) (n : Identifier) (xs : Locals) (t : Node) → P k n xs t → Noted xs t k n × (test k ≡ true)) → Said → Somewhere m (NodeFault m fs f) × (test f.kind ≡ true)
  noted into (k, (n, (s, is))) =
      let kept = some_top (λ (e : test k ≡ true) xs t. P k n xs t) m.decls (each_top (λ xs t. P k n xs t) (λ xs t. (e : test k ≡ true) × P k n xs t) (λ xs t p. ((into k n xs t p).1, p)) m.decls s) in (
        each_top (λ xs t. P k n xs t) (NodeFault m fs f) (λ xs t p. record { kind = k; name = n; stands = (into k n xs t p).0; is = is }) m.decls s,
        ap (λ (g : Fault). test g.kind) is ∙ kept.0,
      )

module _ (m : Module) (fs : List Interface) (f : Fault) where
  pub declaring : (Somewhere m (NodeFault m fs f) × (lists_kind f.kind ≡ true)) ↔ HasFault m fs Declaring f
  declaring = (
    λ h. let s = said m fs f (λ k n xs t. ListFault t k n) lists_kind out h.0 h.1 in record { kind = s.0; name = s.1.0; stands = s.1.1.0; is = s.1.1.1 },
    λ h. noted m fs f (λ k n xs t. ListFault t k n) lists_kind (λ k n xs t p. (inl p, (list_kind t k n p).0)) (h.kind, (h.name, (h.stands, h.is))),
  )
    where
      out : (k : Kind) (n : Identifier) (xs : Locals) (t : Node) → (ListFault t k n ⊎ (NameFault m fs xs t k n ⊎ ArityFault m fs t k n)) → lists_kind k ≡ true → ListFault t k n
      out k n xs t (inl p) e = p
      out k n xs t (inr (inl p)) e = clash (lists_kind k) (name_kind m fs xs t k n p).0 e
      out k n xs t (inr (inr p)) e = clash (lists_kind k) (number_kind m fs t k n p).0 e

  pub naming : (Somewhere m (NodeFault m fs f) × (names_kind f.kind ≡ true)) ↔ HasFault m fs Naming f
  naming = (
    λ h. let s = said m fs f (λ k n xs t. NameFault m fs xs t k n) names_kind out h.0 h.1 in record { kind = s.0; name = s.1.0; stands = s.1.1.0; is = s.1.1.1 },
    λ h. noted m fs f (λ k n xs t. NameFault m fs xs t k n) names_kind (λ k n xs t p. (inr (inl p), (name_kind m fs xs t k n p).1.0)) (h.kind, (h.name, (h.stands, h.is))),
  )
    where
      out : (k : Kind) (n : Identifier) (xs : Locals) (t : Node) → (ListFault t k n ⊎ (NameFault m fs xs t k n ⊎ ArityFault m fs t k n)) → names_kind k ≡ true → NameFault m fs xs t k n
      out k n xs t (inl p) e = clash (names_kind k) (list_kind t k n p).1.0 e
      out k n xs t (inr (inl p)) e = p
      out k n xs t (inr (inr p)) e = clash (names_kind k) (number_kind m fs t k n p).1.0 e

  pub counting : ((Somewhere m (NodeFault m fs f) × (numbers_kind f.kind ≡ true)) ⊎ HasSynonymFault m fs f) ↔ HasFault m fs Counting f
  counting = (
    λ h. ⊎_elim
        (λ p. let s = said m fs f (λ k n xs t. ArityFault m fs t k n) numbers_kind out p.0 p.1 in record { kind = s.0; name = s.1.0; stands = inl s.1.1.0; is = s.1.1.1 })
        (λ (s : HasSynonymFault m fs f). record { kind = s.kind; name = s.name; stands = inr s.stands; is = s.is }) h,
    λ h. ⊎_elim
        (λ p. inl (noted m fs f (λ k n xs t. ArityFault m fs t k n) numbers_kind (λ k n xs t p. (inr (inr p), (number_kind m fs t k n p).1.1)) (h.kind, (h.name, (p, h.is)))))
        (λ s. inr (record { kind = h.kind; name = h.name; stands = s; is = h.is })) h.stands,
  )
    where
      out : (k : Kind) (n : Identifier) (xs : Locals) (t : Node) → (ListFault t k n ⊎ (NameFault m fs xs t k n ⊎ ArityFault m fs t k n)) → numbers_kind k ≡ true → ArityFault m fs t k n
      out k n xs t (inl p) e = clash (numbers_kind k) (list_kind t k n p).1.1 e
      out k n xs t (inr (inl p)) e = clash (numbers_kind k) (name_kind m fs xs t k n p).1.1 e
      out k n xs t (inr (inr p)) e = p
