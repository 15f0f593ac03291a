-- Codes of types, with which the prover decides equality. No public clause names these.
use Rattle.std.specs.Prelude.{◌≡◌, ℕ, zero, suc, List, [], refl}
use Rattle.std.specs.Coded.{Coded, code_by, coded×, coded_ℕ, coded_list}
use Rattle.std.proofs.Common.{ap}
use Rattle.hm_types.specs.Types.{Var as leaf, App as app, done as none, more}
use Rattle.hm_types.specs.Monotypes.{Mono, Monos, var, rigid}
use base.Stored.{Gv, gnil, gnum, gcons, num}
use Rattle.hm_types.specs.declared.Head.{Head}
use Rattle.hm_types.specs.declared.Head.TheVariants.{Named, Arrow, Tuple}
use Rattle.hm_types.specs.declared.Head.TheVariants as head

-- how a head is stored: its kind and its parts
abbrev pub Parts : Type 0
Parts = ℕ × (List ℕ × (List ℕ × ℕ))

abbrev pub parts : Head → Parts
parts (Named e) = (0, (e.«module», (e.name, 0)))
parts Arrow = (1, ([], ([], 0)))
parts head.List = (2, ([], ([], 0)))
parts head.Unit = (3, ([], ([], 0)))
parts (Tuple n) = (4, ([], ([], n)))

abbrev pub whole : ℕ → List ℕ → List ℕ → ℕ → Head
whole zero m n k = Named (record { «module» = m; name = n })
whole (suc zero) m n k = Arrow
whole (suc (suc zero)) m n k = head.List
whole (suc (suc (suc zero))) m n k = head.Unit
whole (suc (suc (suc (suc x)))) m n k = Tuple k

pub whole_parts : (h : Head) → whole (parts h).0 (parts h).1.0 (parts h).1.1.0 (parts h).1.1.1 ≡ h
whole_parts (Named e) = refl
whole_parts Arrow = refl
whole_parts head.List = refl
whole_parts head.Unit = refl
whole_parts (Tuple n) = refl

abbrev pub coded_head : Coded Head
coded_head = code_by Parts (coded× coded_ℕ (coded× (coded_list coded_ℕ) (coded× (coded_list coded_ℕ) coded_ℕ))) parts (λ p. whole p.0 p.1.0 p.1.1.0 p.1.1.1) whole_parts

abbrev mutual
  pub mono_code : Mono → Gv
  mono_code (leaf (var n)) = gcons (gnum 0) (gnum n)
  mono_code (leaf (rigid n)) = gcons (gnum 1) (gnum n)
  mono_code (app h ts) = gcons (gnum 2) (gcons (coded_head.code h) (code_of_all ts))

  pub code_of_all : Monos → Gv
  code_of_all none = gnil
  code_of_all (more t ts) = gcons (mono_code t) (code_of_all ts)

gnum_inj : {m n : ℕ} → gnum m ≡ gnum n → m ≡ n
gnum_inj e = ap num e

mutual
  pub mono_inj : (a b : Mono) → mono_code a ≡ mono_code b → a ≡ b
  mono_inj (leaf (var m)) (leaf (var n)) e = cc
  mono_inj (leaf (var m)) (leaf (rigid n)) e = cc
  mono_inj (leaf (var m)) (app h ts) e = cc
  mono_inj (leaf (rigid m)) (leaf (var n)) e = cc
  mono_inj (leaf (rigid m)) (leaf (rigid n)) e = cc
  mono_inj (leaf (rigid m)) (app h ts) e = cc
  mono_inj (app h ts) (leaf (var n)) e = cc
  mono_inj (app h ts) (leaf (rigid n)) e = cc
  mono_inj (app h ts) (app k us) e =
      let same_row : ts ≡ us = row_inj ts us (cc) in
      let same_head : h ≡ k = coded_head.inj h k (cc) in
      cc

  pub row_inj : (a b : Monos) → code_of_all a ≡ code_of_all b → a ≡ b
  row_inj none none e = refl
  row_inj none (more t ts) e = cc
  row_inj (more t ts) none e = cc
  row_inj (more t ts) (more u us) e =
      let same_head : t ≡ u = mono_inj t u (cc) in
      let same_tail : ts ≡ us = row_inj ts us (cc) in
      cc

abbrev pub coded_mono : Coded Mono
coded_mono = record { code = mono_code; inj = mono_inj }

abbrev pub coded_monos : Coded (List Mono)
coded_monos = coded_list coded_mono
