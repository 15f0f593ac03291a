-- The worked modules have the faults and names that they should.
use Rattle.std.proofs.Common.{◌≡◌, ℕ, List, [], ◌∷◌, None, Some, ◌⊎◌, ⊎_elim, inl, inr, refl, sym, ap, ◌∙◌, subst, map, ◌||◌, Contains, codes, true, false, arith, bytes_eq}
use Rattle.std.proofs.lemmas.Slice.Eq.{bytes_eq-Decides}
use Rattle.hm_types.specs.declared.Entity.{Entity}
use Rattle.hm_types.specs.declared.entries.TypeEntry.{TypeEntry}
use Rattle.hm_types.specs.declared.entries.ValueEntry.{ValueEntry}
use Rattle.hm_types.specs.declared.entries.SynonymEntry.{SynonymEntry}
use Rattle.hm_types.specs.Interfaces.{Exports as Interface}
use Rattle.hm_types.specs.StandardPrelude.{prelude_interface}
use Rattle.hm_syntax.specs.Names.{Identifier}
use Rattle.hm_syntax.specs.Trees.{constructor_type, no_types, variable_expression, RightSide, Patterns, no_patterns, clause, Declaration, no_declarations}
use Rattle.hm_syntax.specs.Lists.{declarations}
use Rattle.hm_names.specs.Texts.{is_text_among}
use Rattle.std.proofs.lemmas.Bool.{cases_Bool}
use Rattle.hm_names.proofs.Synonyms.{exported_of}
use Rattle.hm_syntax.specs.declared.ast.Import.{Import}
use Rattle.hm_syntax.specs.declared.ast.Export.{Export}
use Rattle.hm_syntax.specs.declared.ast.Export.TheVariants as export
use Rattle.hm_syntax.specs.declared.ast.ImportItem.TheVariants as item
use Rattle.hm_syntax.specs.declared.ast.ImportList.TheVariants as list
use Rattle.hm_names.specs.declared.faults.Kind.{Kind}
use Rattle.hm_names.specs.declared.faults.Kind.TheVariants.{NotExported, Duplicate, NoBinding, Unbound, Ambiguous, ExportClash, NotImported, NonLinear, Arity, ClauseLength, Recursive}
use Rattle.hm_names.specs.declared.namespace.Namespace.TheVariants.{Types, Values}
use Rattle.hm_names.specs.Entities as entity
use Rattle.hm_names.specs.Entities.{Exports, a_type, a_synonym, a_value, a_variable, DeclaredBy, named}
use Rattle.hm_names.specs.Scope.{InScope, declared, imported, Imports, written, added, every, only, hiding, Brings, known_as, Means}
use Rattle.hm_names.specs.Scope as scope
use Rattle.hm_names.specs.Exports as exports
use Rattle.hm_names.specs.Faults.Exports as exporting
use Rattle.hm_names.specs.Faults.Lists.{ListFault}
use Rattle.hm_names.specs.Walk.{at_list, at_head}
use Rattle.hm_names.specs.Faults.Imports as importing
use Rattle.hm_names.specs.Faults.Lists as lists
use Rattle.hm_names.specs.Faults.Names as naming
use Rattle.hm_names.specs.Faults.Arities as counting
use Rattle.hm_names.specs.Worked
use Rattle.hm_names.specs.Worked.{at, x, with_x, imports}
use Rattle.hm_names.proofs.Members.{none_in, cases, first}
use Rattle.hm_names.proofs.TopVariables.{names_of_core}

differ : (xs ys : List ℕ) → bytes_eq xs ys ≡ false → xs ≡ ys → ⊥
differ xs ys f e = let t : true ≡ false = sym ((bytes_eq-Decides xs ys).1 e) ∙ f in cc

-- the one element of a list
only_one : {X : Type 0} (a y : X) → Contains (a ∷ []) y → y ≡ a
only_one a y c = ⊎_elim (λ s. s) (λ o. absurd (none_in y o)) (cases a [] y c)

-- import B (x, zz)
no_zz : (e : Entity) → ¬ (Exports (with_x (codes "B")) (codes "zz") e Values)
no_zz e (a_value {r} c n q) = differ x (codes "zz") refl (sym (ap (λ w. w.name) (only_one _ r c)) ∙ n)

pub not_exported : Worked.NotExportedRow
not_exported = record {
  kind = NotExported;
  name = at 32 (codes "zz");
  stands = importing.a_value {f = with_x (codes "B")} (importing.lists (written (0, omega arith, refl)) (1, omega arith, refl) refl refl (1, omega arith, refl)) no_zz;
  is = refl;
}

pub duplicate : Worked.DuplicateRow
duplicate = record { kind = Duplicate; name = at 31 x; stands = inl (lists.second_binding (inl ((1, omega arith, refl), refl))); is = refl }

pub non_linear : Worked.NonLinearRow
non_linear = record { kind = NonLinear; name = at 22 x; stands = inr (inl (inl (inl (naming.non_linear (inl (first _ [], refl)))))); is = refl }

pub no_binding : Worked.NoBindingRow
no_binding = record { kind = NoBinding; name = at 18 x; stands = inl (lists.no_binding (first _ []) (λ h. none_in _ h)); is = refl }

pub unbound : Worked.UnboundRow
unbound = record { kind = Unbound; name = at 31 (codes "b"); stands = inr (inl (inl (naming.no_parameter (first _ []) (λ h. differ (codes "b") (codes "a") refl (only_one _ _ h))))); is = refl }

-- x of two interfaces
x_of : (m : List ℕ) (i : Import) (k : Contains (prelude_interface ∷ with_x (codes "A") ∷ with_x (codes "D") ∷ []) (with_x m)) → Imports Worked.two_x i → m ≡ i.name.text → i.list ≡ list.Every → i.qualified ≡ false →
    InScope Worked.two_x (prelude_interface ∷ with_x (codes "A") ∷ with_x (codes "D") ∷ []) Values None x (named m x)
x_of m i k w n l q = imported w k n (every l (a_value (0, omega arith, refl) refl refl)) (inl (refl, q))

pub ambiguous : Worked.AmbiguousRow
ambiguous = record {
  kind = Ambiguous;
  name = at 44 x;
  stands = inr (inl (inr (inl (inl (naming.ambiguous (naming.a_variable (λ l. none_in _ l.1)) (
    named (codes "A") x,
    (
      named (codes "D") x,
      (
        x_of (codes "A") (imports false (codes "A") list.Every) (1, omega arith, refl) (written (0, omega arith, refl)) refl refl refl,
        x_of (codes "D") (imports false (codes "D") list.Every) (2, omega arith, refl) (written (1, omega arith, refl)) refl refl refl,
        λ e. differ (codes "A") (codes "D") refl (ap (λ d. d.«module») e),
      ),
    ),
  ))))));
  is = refl;
}

pub clause_length : Worked.ClauseLengthRow
clause_length = record { kind = ClauseLength; name = at 28 (codes "f"); stands = inl (inl (counting.another_length (first _ []))); is = refl }

pub expansion : Worked.ExpansionRow
expansion n t u = refl

pub kept : Worked.KeptRow
kept t = refl

pub left_out : Worked.LeftOutRow
left_out t = refl

pub pattern : Worked.PatternRow
pattern c a = names_of_core Worked.with_pattern Worked.prelude_alone c a

pub binder : Worked.BinderRow
binder m fs r a = ap (λ v. Worked.lambda_of (at 19 x) v) (a.local (x ∷ []) (at 26 x) (refl, first x []))

pub no_capture : Worked.NoCaptureRow
no_capture m fs r e a h = ap (λ v. Worked.lambda_of (at 19 x) v) (a.value (x ∷ []) Worked.x_of_B e (λ l. let z : Some (codes "B") ≡ None = l.0 in cc) h)

-- Types of a module beside Prelude alone

-- no entry has the name
unnamed : {X : Type 0} (name : X → List ℕ) (rs : List X) (r : X) (y : List ℕ) → is_text_among y (map name rs) ≡ false → Contains rs r → name r ≡ y → ⊥
unnamed name [] r y f c e = none_in r c
unnamed name (q ∷ rs) r y f c e = go (cases_Bool (bytes_eq y (name q))) (λ g o. unnamed name rs r y g o e)
  where
    go : (bytes_eq y (name q) ≡ true) ⊎ (bytes_eq y (name q) ≡ false) → (is_text_among y (map name rs) ≡ false → Contains rs r → ⊥) → ⊥
    go (inl t) ih = let z : true ≡ false = sym (ap (λ b. b || is_text_among y (map name rs)) t) ∙ f in cc
    go (inr n) ih = elim (cases q rs r c) [
      | inl s ↦ let z : true ≡ false = sym ((bytes_eq-Decides y (name q)).1 (sym e ∙ ap name s)) ∙ n in cc
      | inr o ↦ ih (sym (ap (λ b. b || is_text_among y (map name rs)) n) ∙ f) o
    ]

-- a name of a module without imports that Prelude has not
alone : (ds : List Declaration) (y : List ℕ) (d : Entity) → is_text_among y (map (λ r. r.name) prelude_interface.types) ≡ false → is_text_among y (map (λ r. r.name) prelude_interface.synonyms) ≡ false →
    InScope (Worked.a_module ds) Worked.prelude_alone Types None y d → d ≡ named (codes "A") y
alone ds y d f g (declared w q e) = e
alone ds y d f g (imported {i} {f = p} w c n b q) = absurd (from p (only_one prelude_interface p c) (exported_of p i Types y d b))
  where
    from : (p : Interface) → p ≡ prelude_interface → Exports p y d Types → ⊥
    from p s (a_type {r} c n q) = unnamed (λ (r : TypeEntry). r.name) prelude_interface.types r y f (subst (λ z. Contains z.types r) s c) n
    from p s (a_synonym {r} c n q) = unnamed (λ (r : SynonymEntry). r.name) prelude_interface.synonyms r y g (subst (λ z. Contains z.synonyms r) s c) n

S_means : (l : ℕ) → Means Worked.cyclic Worked.prelude_alone Types (at l (codes "S")) (named (codes "A") (codes "S"))
S_means l = record { in_scope = declared (record { declaration = Worked.synonym 23 (codes "S") 27 (codes "T"); stands = (0, omega arith, refl); declares = entity.a_synonym refl }) (inl refl) refl; alone = λ d i. alone _ (codes "S") d refl refl i }

T_means : (l : ℕ) → Means Worked.cyclic Worked.prelude_alone Types (at l (codes "T")) (named (codes "A") (codes "T"))
T_means l = record { in_scope = declared (record { declaration = Worked.synonym 36 (codes "T") 40 (codes "S"); stands = (1, omega arith, refl); declares = entity.a_synonym refl }) (inl refl) refl; alone = λ d i. alone _ (codes "T") d refl refl i }

S_to_T : counting.RefersTo Worked.cyclic Worked.prelude_alone (codes "S") (codes "T")
S_to_T = counting.refers {n = at 23 (codes "S")} {k = at 27 (codes "T")} {ps = []} {t = constructor_type (at 27 (codes "T")) no_types} (0, omega arith, refl) refl (0, omega arith, refl) (T_means 27)

T_to_S : counting.RefersTo Worked.cyclic Worked.prelude_alone (codes "T") (codes "S")
T_to_S = counting.refers {n = at 36 (codes "T")} {k = at 40 (codes "S")} {ps = []} {t = constructor_type (at 40 (codes "S")) no_types} (1, omega arith, refl) refl (0, omega arith, refl) (S_means 40)

pub recursive : Worked.RecursiveRow
recursive = (
  record { kind = Recursive; name = at 23 (codes "S"); stands = inr (counting.recursive {ps = []} {t = constructor_type (at 27 (codes "T")) no_types} (0, omega arith, refl) (counting.through S_to_T (counting.directly T_to_S))); is = refl },
  record { kind = Recursive; name = at 36 (codes "T"); stands = inr (counting.recursive {ps = []} {t = constructor_type (at 40 (codes "S")) no_types} (1, omega arith, refl) (counting.through T_to_S (counting.directly S_to_T))); is = refl },
)

pub arity : Worked.ArityRow
arity = record {
  kind = Arity;
  name = at 36 (codes "T");
  stands = inl (inr (inr (inl (inl (counting.a_type {e = named (codes "A") (codes "T")}
      (record { in_scope = declared (record { declaration = _; stands = (0, omega arith, refl); declares = entity.a_data_type refl }) (inl refl) refl; alone = λ d i. alone _ (codes "T") d refl refl i })
      refl (λ h. absurd (omega (arith, h))))))));
  is = refl;
}

-- module Z isn't imported
pub not_imported : Worked.NotImportedRow
not_imported = record { kind = NotImported; name = at 18 (codes "Z"); stands = (export.Whole (at 18 (codes "Z")) ∷ [], (refl, exporting.not_imported (0, omega arith, refl) no_name)); is = refl }
  where
    no_name : ¬ (exports.IsModuleName Worked.exports_Z (codes "Z"))
    no_name (exports.this e) = differ (codes "A") (codes "Z") refl e
    no_name (exports.an_import {i} (written c) e) = none_in i c
    no_name (exports.an_import {i} (added o s) e) = differ (codes "Prelude") (codes "Z") refl (sym (ap known_as s) ∙ e)

-- In (x, x) = 1 nothing is declared twice

no_list_fault : (n : Identifier) (k : Kind) → ListFault (at_list no_declarations) k n → ⊥
no_list_fault n k (lists.second_type r) = r
no_list_fault n k (lists.second_constructor r) = r
no_list_fault n k (lists.second_binding r) = r
no_list_fault n k (lists.second_signature r) = r
no_list_fault n k (lists.no_binding c o) = none_in n c

no_top_fault : (n : Identifier) (k : Kind) → k ≡ Duplicate → ListFault (at_list (declarations Worked.twice_in_one.decls)) k n → ⊥
no_top_fault n k e (lists.second_type r) = r
no_top_fault n k e (lists.second_constructor r) = r
no_top_fault n k e (lists.second_binding r) = ⊎_elim (λ h. none_in n h.0) (λ h. h) r
no_top_fault n k e (lists.second_signature r) = r
no_top_fault n k e (lists.no_binding c o) = none_in n c

no_head_fault : (n : Identifier) (k : Kind) (ps : Patterns) → ListFault (at_head ps) k n → ⊥
no_head_fault n k ps h = elim h [ ]

pub no_duplicate : Worked.NoDuplicateRow
no_duplicate n h =
    let e : h.kind ≡ Duplicate = sym (ap (λ f. f.kind) h.is) in
    ⊎_elim (λ t. no_top_fault h.name h.kind e t)
    (λ d. ⊎_elim (λ p. ⊎_elim (λ q. ⊎_elim (λ t. no_head_fault h.name h.kind _ t) (λ t. ⊎_elim (λ u. ⊎_elim (λ v. v) (λ v. ⊎_elim (λ w. w) (λ w. w) v) u) (λ u. u) t) q) (λ q. ⊎_elim (λ t. ⊎_elim (λ u. u) (λ u. u) t) (λ t. ⊎_elim (λ u. no_list_fault h.name h.kind u) (λ u. u) t) q) p) (λ p. p) d) h.stands

-- module A (x, B.x) where { import qualified B ; x = 1 }

abbrev beside_B : List Interface
beside_B = prelude_interface ∷ with_x (codes "B") ∷ []

not_of_prelude : (d : Entity) → ¬ (Exports prelude_interface x d Values)
not_of_prelude d (a_value {r} c n q) = unnamed (λ (r : ValueEntry). r.name) prelude_interface.values r x refl c n

of_B : (d : Entity) → Exports (with_x (codes "B")) x d Values → d ≡ named (codes "B") x
of_B d (a_value {r} c n q) = sym q ∙ ap (λ r. r.entity) (only_one _ r c)

own_alone : (d : Entity) → InScope Worked.clashing beside_B Values None x d → d ≡ named (codes "A") x
own_alone d (declared w q e) = e
own_alone d (imported {i} {f} (written w) c n b q) = ⊎_elim (λ h. absurd (let z : true ≡ false = sym (ap (λ j. j.qualified) (only_one _ i w)) ∙ h.1 in cc)) (λ h. let z : None ≡ Some (known_as i) = h in absurd (cc)) q
own_alone d (imported {i} {f} (added o p) c n b q) =
    ⊎_elim (λ s. absurd (not_of_prelude d (subst (λ z. Exports z x d Values) s (exported_of f i Values x d b))))
    (λ s. absurd (differ (codes "B") (codes "Prelude") refl (sym (ap (λ z. z.name) (only_one _ f s)) ∙ (n ∙ ap (λ j. j.name.text) p)))) (cases prelude_interface (with_x (codes "B") ∷ []) f c)

other_alone : (d : Entity) → InScope Worked.clashing beside_B Values (Some (codes "B")) x d → d ≡ named (codes "B") x
other_alone d (declared w q e) = ⊎_elim (λ h. let z : Some (codes "B") ≡ None = h in absurd (cc)) (λ h. absurd (differ (codes "B") (codes "A") refl (some_same _ _ h))) q
  where
    some_same : (a b : List ℕ) → Some a ≡ Some b → a ≡ b
    some_same a b h = cc
other_alone d (imported {i} {f} w c n b q) =
    ⊎_elim (λ s. absurd (not_of_prelude d (subst (λ z. Exports z x d Values) s (exported_of f i Values x d b)))) (λ s. of_B d (subst (λ z. Exports z x d Values) (only_one _ f s) (exported_of f i Values x d b))) (cases prelude_interface (with_x (codes "B") ∷ []) f c)

abbrev qualified_x : Identifier
qualified_x = record { qualifier = Some (codes "B"); text = x; line = 1; column = 14 }

own_means : Means Worked.clashing beside_B Values (at 11 x) (named (codes "A") x)
own_means = record { in_scope = declared (record { declaration = clause (at 48 x) no_patterns Worked.one; stands = (0, omega arith, refl); declares = a_variable refl }) (inl refl) refl; alone = own_alone }

other_means : Means Worked.clashing beside_B Values qualified_x (named (codes "B") x)
other_means = record {
  in_scope = imported {i = imports true (codes "B") list.Every} {f = with_x (codes "B")} (written (0, omega arith, refl)) (1, omega arith, refl) refl (every refl (a_value (0, omega arith, refl) refl refl)) (inr refl);
  alone = other_alone;
}

at_most : (y : List ℕ) → x ≡ y → exporting.IsAtMost x y
at_most y e = subst (λ z. exporting.IsAtMost x z) e (inr (refl, tt))

given_text : (y : List ℕ) (e : Entity) (s : _) → exports.Gives Worked.clashing beside_B y e (export.Var qualified_x) s → x ≡ y
given_text y e s (exports.a_value h t) = t

pub clash : Worked.ClashRow
clash = record {
  kind = ExportClash;
  name = at 14 x;
  stands = (
    export.Var (at 11 x) ∷ export.Var qualified_x ∷ [],
    (
      refl,
      exporting.clash (export.Var (at 11 x) ∷ []) [] {i = export.Var qualified_x} {x = x} refl
          (record { space = Values; one = named (codes "B") x; given = exports.a_value other_means refl; item = export.Var (at 11 x); stands = inl (0, omega arith, refl); other = named (codes "A") x; given_too = exports.a_value own_means refl; differ = λ e. differ (codes "B") (codes "A") refl (ap (λ d. d.«module») e) })
          (λ y h. at_most y (given_text y h.one h.space h.given)),
    ),
  );
  is = refl;
}

-- y = .. declares y alone
named_y : (l : ℕ) (g : RightSide) → DeclaredBy x (clause (at l (codes "y")) no_patterns g) Values → ⊥
named_y l g (a_variable e) = differ (codes "y") x refl e

only_y : (l : ℕ) (g : RightSide) (d : Declaration) → Contains (clause (at l (codes "y")) no_patterns g ∷ []) d → DeclaredBy x d Values → ⊥
only_y l g d c h = named_y l g (subst (λ z. DeclaredBy x z Values) (only_one _ d c) h)

-- no bare x is in scope, where the one import is qualified
no_bare_x : (e : Entity) → ¬ (InScope Worked.exports_B beside_B Values None x e)
no_bare_x e (declared w q o) = only_y 50 Worked.one w.declaration w.stands w.declares
no_bare_x e (imported {i} {f} (written w) c n b q) = ⊎_elim (λ h. let z : true ≡ false = sym (ap (λ j. j.qualified) (only_one _ i w)) ∙ h.1 in cc) (λ h. let z : None ≡ Some (known_as i) = h in cc) q
no_bare_x e (imported {i} {f} (added o p) c n b q) =
    ⊎_elim (λ s. not_of_prelude e (subst (λ z. Exports z x e Values) s (exported_of f i Values x e b)))
    (λ s. differ (codes "B") (codes "Prelude") refl (sym (ap (λ z. z.name) (only_one _ f s)) ∙ (n ∙ ap (λ j. j.name.text) p))) (cases prelude_interface (with_x (codes "B") ∷ []) f c)

whole_alone : (e : Entity) (i : Export) → i ≡ export.Whole (at 18 (codes "B")) → exports.Gives Worked.exports_B beside_B x e i Values → ⊥
whole_alone e (export.Var n) k g = absurd (cc)
whole_alone e (export.Con n s) k g = absurd (cc)
whole_alone e (export.Whole n) k (exports.whole m a b) = no_bare_x e a

pub whole : Worked.WholeRow
whole e (exports.all h d o) = let z : Some (export.Whole (at 18 (codes "B")) ∷ []) ≡ None = h in cc
whole e (exports.listed {es} {i} h c g) =
    let same : (export.Whole (at 18 (codes "B")) ∷ []) ≡ es = let z : Some (export.Whole (at 18 (codes "B")) ∷ []) ≡ Some es = h in cc in
    whole_alone e i (only_one _ i (subst (λ l. Contains l i) (sym same) c)) g

-- import B hiding (x)
no_x : (e : Entity) → ¬ (InScope Worked.hides_x beside_B Values None x e)
no_x e (declared w q o) = only_y 40 (Worked.is (variable_expression (at 44 x))) w.declaration w.stands w.declares
no_x e (imported {i} {f} (written w) c n b q) = hidden_from i (ap (λ j. j.list) (only_one _ i w)) b
  where
    hidden_from : (i : Import) → i.list ≡ list.Hiding (item.Var (at 35 x) ∷ []) → Brings f i Values x e → ⊥
    hidden_from i h (every k d) = let z : list.Hiding (item.Var (at 35 x) ∷ []) ≡ list.Every = sym h ∙ k in cc
    hidden_from i h (only {is} k a l d) = let z : list.Hiding (item.Var (at 35 x) ∷ []) ≡ list.Only is = sym h ∙ k in cc
    hidden_from i h (hiding {is} k a d) =
        let same : (item.Var (at 35 x) ∷ []) ≡ is = let z : list.Hiding (item.Var (at 35 x) ∷ []) ≡ list.Hiding is = sym h ∙ k in cc in
        a (item.Var (at 35 x)) (subst (λ l. Contains l (item.Var (at 35 x))) same (0, omega arith, refl)) (scope.listed (scope.a_value refl))
no_x e (imported {i} {f} (added o p) c n b q) =
    ⊎_elim (λ s. not_of_prelude e (subst (λ z. Exports z x e Values) s (exported_of f i Values x e b)))
    (λ s. differ (codes "B") (codes "Prelude") refl (sym (ap (λ z. z.name) (only_one _ f s)) ∙ (n ∙ ap (λ j. j.name.text) p))) (cases prelude_interface (with_x (codes "B") ∷ []) f c)

pub hidden : Worked.HiddenRow
hidden = record { kind = Unbound; name = at 44 x; stands = inr (inl (inr (inl (inl (naming.unbound (naming.a_variable (λ l. none_in _ l.1)) no_x))))); is = refl }
