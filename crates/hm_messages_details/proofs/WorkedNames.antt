-- The worked names of imports and signatures.
use Rattle.std.proofs.Common.{◌≡◌, ◌∷◌, ◌∙◌, ◌+◌, [], ℕ, List, All, None, Some, ⊎_elim, ap, arith, inl, inr, refl, subst, sym}
use Rattle.std.proofs.lemmas.List.Elements.{All-cons, All-nil}
use Rattle.std.specs.Prelude.{Contains, codes}
use Rattle.hm_syntax.specs.Names.{Identifier}
use Rattle.hm_syntax.specs.declared.ast.Import.{Import}
use Rattle.hm_types.specs.declared.Entity.{Entity}
use Rattle.hm_types.specs.declared.entries.TypeEntry.{TypeEntry}
use Rattle.hm_types.specs.Interfaces.{Exports as Interface}
use Rattle.hm_names.specs.Entities.{Exports}
use Rattle.hm_names.specs.Faults.Phases.{fault}
use Rattle.hm_names.specs.Scope.{Brings, every, hiding, known_as, only}
use Rattle.hm_names.specs.declared.faults.Kind.TheVariants.{NotExported}
use Rattle.hm_names.specs.declared.namespace.Namespace.{Namespace}
use Rattle.hm_names.specs.declared.namespace.Namespace.TheVariants.{Types, Constructors, Values}
use Rattle.hm_names.proofs.Members.{cases, none_in}
use Rattle.hm_messages_details.specs.Candidates.{IsInLine}
use Rattle.hm_messages_details.specs.NearExports.{CanBeListed, a_constructor as a_part, a_value as a_variable}
use Rattle.hm_messages_details.specs.Nearness.{IsSmallForm}
use Rattle.hm_messages_details.specs.Listed.{IsListedAs, a_constructor, a_type}
use Rattle.hm_messages_details.specs.Worked.{ImportLineRow, ListedRow, NearBindingRow, NearExportRow, PatternRow, SmallFormRow, SpaceRow, constructor_item, import_on, name_on, two_imports}
use Rattle.hm_lex.specs.declared.token.Place.{Place}

pub worked_listed : ListedRow
worked_listed = record {
  after = a_constructor (0, omega arith, refl) (record { place_is = refl; name_is = refl });
  alone = λ h. not_alone h;
}
  where
    not_alone : ¬ (IsListedAs (fault NotExported (name_on (codes "D") 2)) constructor_item None)
    not_alone (a_type at) = let lines : 2 ≡ 1 = ap (λ (p : Place). p.line) at.place_is in omega (arith, lines)

no_part : (i : Interface) (y : List ℕ) → i.types ≡ [] → ¬ (CanBeListed i y (Some (codes "Tree")))
no_part i y none (a_part b) = none_in b.type (subst (λ (l : List TypeEntry). Contains l b.type) none b.exports_type)

pub worked_near_exports : NearExportRow
worked_near_exports = record {
  a_variable = λ i r among named near. record { listable = a_variable among named; near = near };
  no_type = λ i y none h. no_part i y none h.listable;
}

first_letter : List ℕ → ℕ
first_letter [] = 0
first_letter (x ∷ xs) = x

-- an import that brings an entity in is of an interface that exports it
pub exported : (f : Interface) (i : Import) (s : Namespace) (x : List ℕ) (e : Entity) → Brings f i s x e → Exports f x e s
exported f i s x e (every is there) = there
exported f i s x e (only is among lists there) = there
exported f i s x e (hiding is not there) = there

-- of the two imports, L is the first
called_l : (i : Import) → Contains two_imports i → known_as i ≡ codes "L" → i.name.text ≡ codes "A"
unfolding first_letter
called_l i c known = ⊎_elim (λ e. ap (λ (j : Import). j.name.text) e)
    (λ o. ⊎_elim (λ e. let letters : 77 ≡ 76 = ap first_letter (ap known_as (sym e) ∙ known) in absurd (omega (arith, letters))) (λ z. absurd (none_in i z))
    (cases (import_on (codes "B") (codes "M") 2) [] i o))
    (cases (import_on (codes "A") (codes "L") 1) (import_on (codes "B") (codes "M") 2 ∷ []) i c)

pub worked_lines : ImportLineRow
unfolding first_letter
worked_lines = record {
  first = λ m fs e f is of. record {
    import = import_on (codes "A") (codes "L") 1;
    interface = f;
    written = subst (λ l. Contains l (import_on (codes "A") (codes "L") 1)) (sym is) (0, omega arith, refl);
    among = of.0;
    from = of.1;
    brings = every refl of.2;
    known = refl;
    each = subst (All (IsInLine (codes "L") 1)) (sym is)
        (All-cons (IsInLine (codes "L") 1) (import_on (codes "A") (codes "L") 1) (import_on (codes "B") (codes "M") 2 ∷ []) (λ e. refl)
        (All-cons (IsInLine (codes "L") 1) (import_on (codes "B") (codes "M") 2) [] (λ e. let letters : 77 ≡ 76 = ap first_letter e in omega (arith, letters)) (All-nil (IsInLine (codes "L") 1))));
  };
  second = λ m fs e is h.
      let each : All (IsInLine (codes "L") 2) two_imports = subst (All (IsInLine (codes "L") 2)) is h.each in
      let lines : 1 ≡ 2 = each 0 (import_on (codes "A") (codes "L") 1) (omega arith) refl in
      omega (arith, lines);
  not_brought = λ m fs e is none h.
      let text : h.import.name.text ≡ codes "A" = called_l h.import (subst (λ l. Contains l h.import) is h.written) h.known in
      none h.interface (h.among, h.from ∙ text, exported h.interface h.import Values e.name e h.brings);
}

pub worked_bindings : NearBindingRow
worked_bindings = record {
  bound = λ near. record {
    signed = name_on (codes "fooBar") 1;
    among = (0, omega arith, refl);
    at_signed = record { place_is = refl; name_is = refl };
    bound = name_on (codes "foobar") 2;
    binds = (0, omega arith, refl);
    text_is = refl;
    near = near;
  };
  other = λ h. not_bound h.bound h.binds h.text_is;
}
  where
    fourth : List ℕ → ℕ
    fourth (a ∷ b ∷ c ∷ d ∷ xs) = d
    fourth _ = 0

    not_bound : (n : Identifier) → Contains (name_on (codes "foobar") 2 ∷ []) n → ¬ (n.text ≡ codes "fooBaz")
    not_bound n c e = ⊎_elim
        (λ s. let letters : 98 ≡ 66 = ap fourth (ap (λ (k : Identifier). k.text) (sym s) ∙ e) in omega (arith, letters))
        (λ o. none_in n o) (cases (name_on (codes "foobar") 2) [] n c)

is_type : Namespace → ℕ
is_type Types = 1
is_type Constructors = 0
is_type Values = 0

pub worked_spaces : SpaceRow
unfolding is_type
worked_spaces = record {
  there = λ e. record { within = refl; written = refl };
  other = λ e h. let ones : 1 ≡ 0 = ap is_type h.within in omega (arith, ones);
}

not_capitals : ¬ (IsSmallForm (codes "TRUE") (codes "True"))
unfolding first_letter
not_capitals h =
    let small : 84 ≡ h.capital + 32 = ap first_letter h.small_is in
    let capital : 84 ≡ h.capital = ap first_letter h.capital_is in
    omega (arith, small, capital)

pub worked_small_forms : SmallFormRow
worked_small_forms = record {
  small = record { capital = 84; rest = codes "rue"; lowest = omega arith; highest = omega arith; small_is = refl; capital_is = refl };
  capitals = not_capitals;
}

pub worked_patterns : PatternRow
worked_patterns = record {
  bound = record {
    signed = name_on (codes "p") 1;
    among = (0, omega arith, refl);
    at_signed = record { place_is = refl; name_is = refl };
    bound = inr (inl (name_on (codes "p") 2, (0, omega arith, refl), refl));
  };
  other = λ h. ⊎_elim (λ s. absurd s) (λ o. ⊎_elim (λ s. absurd s) (λ n. absurd n) o) h.bound;
}
