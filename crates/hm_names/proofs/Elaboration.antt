-- Laws of cores.
use Rattle.std.proofs.Common.{◌≡◌, ℕ, suc, List, [], ◌∷◌, map, length, arith, None, Some, ◌⊎◌, inl, inr, refl, sym, ap, ap₂, ◌∙◌, subst, cond, true, false}
use Rattle.std.specs.Prelude.{◌↔◌}
use Rattle.std.proofs.lemmas.Bool.{cases_Bool}
use Rattle.hm_types.specs.declared.Entity.{Entity}
use Rattle.hm_types.specs.declared.entries.ValueEntry.{ValueEntry}
use Rattle.hm_types.specs.declared.Head.TheVariants as head
use Rattle.hm_types.specs.Interfaces.{Exports as Interface}
use Rattle.hm_types.specs.Types.{Args, Var, App, done, more, put, put_all, In, InArgs}
use Rattle.hm_types.specs.Schemes.{HasArities, AllHaveArities, HasNoRigid, AllHaveNoRigid}
use Rattle.hm_types.specs.Monotypes.{Mono, Monos, var, rigid, list_of}
use Rattle.hm_typing.specs.Assumptions.{Has, IsClosed}
use Rattle.hm_typing.specs.Names.{global}
use Rattle.hm_typing.specs.Programs.{scheme_of, monotype_of, variable_of}
use Rattle.hm_typing.specs.Schemes.{Monotype, Free, Quantified, IsInstance, closed}
use Rattle.hm_syntax.specs.Names.{Identifier}
use Rattle.hm_syntax.specs.Trees.{TypeTrees}
use Rattle.hm_syntax.specs.Lists.{declarations}
use Rattle.hm_syntax.specs.declared.ast.Module.{Module}
use Rattle.hm_names.specs.ModuleCores.{ModuleCore}
use Rattle.hm_names.specs.Texts.{same_entity}
use Rattle.hm_names.specs.Described.{first_of}
use Rattle.hm_names.specs.Syntax.{bindings_of}
use Rattle.hm_names.specs.Variables.{type_count}
use Rattle.hm_names.specs.Types.{type_in, types_in}
use Rattle.hm_names.specs.Expansion.{argument, filled_at, all_filled_at}
use Rattle.hm_names.specs.Resolved.{Resolver, IsResolver, resolved}
use Rattle.hm_names.specs.Cores.{IsCore, kept, syntax_of, elaborated, known_in, assumed, assumptions, imported_values}
use Rattle.hm_names.proofs.Members.{same_entity-Decides}
use Rattle.hm_names.proofs.Agreement.{one_resolution}
use Rattle.hm_names.proofs.KeptDeclarations.{same_bindings, same_known}

pub is_elaborated : (m : Module) (fs : List Interface) (c : ModuleCore) (r : Resolver) → IsCore m fs c → IsResolver m fs r → syntax_of c ≡ elaborated m fs r
is_elaborated m fs c r a b =
    let es = c.exported_types in
    let t : c.decls ≡ map (kept es) (resolved m r) = a.trees ∙ ap (map (kept es)) (one_resolution m fs a.resolver r a.well_formed a.resolves b) in
    (λ i. bindings_of (known_in (a.name i) (t i) (a.interfaces i)) (declarations (t i)) (declarations (t i))) ∙
    (same_bindings es (known_in m.header.name.text (map (kept es) (resolved m r)) fs) (resolved m r) ∙
    ap (λ k. bindings_of k (declarations (resolved m r)) (declarations (resolved m r))) (same_known es m.header.name.text (resolved m r) fs))

pub one_syntax : (m : Module) (fs : List Interface) (c d : ModuleCore) → IsCore m fs c → IsCore m fs d → (syntax_of c ≡ syntax_of d) × (assumptions c ≡ assumptions d)
one_syntax m fs c d a b = (
  is_elaborated m fs c b.resolver a b.resolves ∙ sym (is_elaborated m fs d b.resolver b b.resolves),
  ap (λ z. assumed (imported_values z)) (a.interfaces ∙ sym b.interfaces),
)

-- What is assumed

mutual
  not_free : (t : Monotype) (a : ℕ) → ¬ (In (Free a) (closed t))
  not_free (Var v) a h = let z : Free a ≡ Quantified v = h in cc
  not_free (App h ts) a g = none_free ts a g

  none_free : (ts : Args ℕ) (a : ℕ) → ¬ (InArgs (Free a) (put_all (λ v. Var (Quantified v)) ts))
  none_free done a g = g
  none_free (more t ts) a g = elim g [ inl h ↦ not_free t a h | inr h ↦ none_free ts a h ]

closed_entries : (rs : List ValueEntry) → IsClosed (assumed rs)
closed_entries [] a h = h
closed_entries (r ∷ rs) a h = elim h [ inl g ↦ not_free (monotype_of r.scheme.body) a g | inr g ↦ closed_entries rs a g ]

pub assumes_closed : (c : ModuleCore) → IsClosed (assumptions c)
assumes_closed c = closed_entries (imported_values c.interfaces)

abbrev First : List ValueEntry → Entity → Monotype → Type 0
First rs e t = (r : ValueEntry) × ((first_of (λ v. v.entity) e rs ≡ Some r) × IsInstance t (scheme_of r.scheme))

global_is : (d e : Entity) → global d ≡ global e → d ≡ e
global_is d e h = cc

first_entry : (rs : List ValueEntry) (e : Entity) (t : Monotype) → Has (assumed rs) (global e) t ↔ First rs e t
first_entry [] e t = (λ h. absurd h, λ h. absurd (let z : None ≡ Some h.0 = h.1.0 in cc))
first_entry (r ∷ rs) e t = go (cases_Bool (same_entity e r.entity)) (first_entry rs e t)
  where
    go : (same_entity e r.entity ≡ true) ⊎ (same_entity e r.entity ≡ false) → Has (assumed rs) (global e) t ↔ First rs e t → Has (assumed (r ∷ rs)) (global e) t ↔ First (r ∷ rs) e t
    go (inl q) ih =
        let is : first_of (λ v. v.entity) e (r ∷ rs) ≡ Some r = ap (λ b. cond b (Some r) (first_of (λ v. v.entity) e rs)) q in (
          (λ h. elim h [ inl g ↦ (r, (is, g.1)) | inr g ↦ absurd (g.0 (ap global ((same_entity-Decides e r.entity).0 q))) ]),
          (λ h. let z : Some r ≡ Some h.0 = sym is ∙ h.1.0 in let w : r ≡ h.0 = cc in inl (ap global ((same_entity-Decides e r.entity).0 q), subst (λ k. IsInstance t (scheme_of k.scheme)) (sym w) h.1.1)),
        )
    go (inr q) ih =
        let is : first_of (λ v. v.entity) e (r ∷ rs) ≡ first_of (λ v. v.entity) e rs = ap (λ b. cond b (Some r) (first_of (λ v. v.entity) e rs)) q in
        let other : ¬ (global e ≡ global r.entity) = λ h. let z : true ≡ false = sym ((same_entity-Decides e r.entity).1 (global_is e r.entity h)) ∙ q in cc in (
          (λ h. elim h [ inl g ↦ absurd (other g.0) | inr g ↦ let p = ih.0 g.1 in (p.0, (is ∙ p.1.0, p.1.1)) ]),
          (λ h. inr (other, ih.1 (h.0, (sym is ∙ h.1.0, h.1.1)))),
        )

pub assumes_first : (c : ModuleCore) (e : Entity) (t : Monotype) → Has (assumptions c) (global e) t ↔ First (imported_values c.interfaces) e t
assumes_first c e t = first_entry (imported_values c.interfaces) e t

-- Expansion

filled_count : (n : Identifier) (ts : TypeTrees) (us : Monos) → type_count (all_filled_at n ts us) ≡ length (list_of us)
filled_count n ts done = refl
filled_count n ts (more u us) = ap suc (filled_count n ts us)

mutual
  pub filled_type : (vs : List (List ℕ)) (n : Identifier) (ts : TypeTrees) (b : Mono) → HasNoRigid b → HasArities b → type_in vs (filled_at n ts b) ≡ put (λ i. type_in vs (argument i ts)) (monotype_of b)
  filled_type vs n ts (Var (var i)) r a = refl
  filled_type vs n ts (Var (rigid i)) r a = absurd r
  filled_type vs n ts (App (head.Named e) us) r a = ap (App (head.Named e)) (filled_types vs n ts us r a.1)
  filled_type vs n ts (App head.Arrow done) r a = absurd (omega (arith, a.0))
  filled_type vs n ts (App head.Arrow (more u done)) r a = absurd (omega (arith, a.0))
  filled_type vs n ts (App head.Arrow (more u (more w done))) r a = ap (App head.Arrow) (filled_types vs n ts (more u (more w done)) r a.1)
  filled_type vs n ts (App head.Arrow (more u (more w (more x us)))) r a = absurd (omega (arith, a.0))
  filled_type vs n ts (App head.List done) r a = absurd (omega (arith, a.0))
  filled_type vs n ts (App head.List (more u done)) r a = ap (App head.List) (filled_types vs n ts (more u done) r a.1)
  filled_type vs n ts (App head.List (more u (more w us))) r a = absurd (omega (arith, a.0))
  filled_type vs n ts (App head.Unit done) r a = refl
  filled_type vs n ts (App head.Unit (more u us)) r a = absurd (omega (arith, a.0))
  filled_type vs n ts (App (head.Tuple k) us) r a = ap₂ (λ j ws. App (head.Tuple j) ws) (filled_count n ts us ∙ a.0) (filled_types vs n ts us r a.1)

  filled_types : (vs : List (List ℕ)) (n : Identifier) (ts : TypeTrees) (us : Monos) → AllHaveNoRigid us → AllHaveArities us → types_in vs (all_filled_at n ts us) ≡ put_all (λ i. type_in vs (argument i ts)) (put_all variable_of us)
  filled_types vs n ts done r a = refl
  filled_types vs n ts (more u us) r a = ap₂ more (filled_type vs n ts u r.0 a.0) (filled_types vs n ts us r.1 a.1)
