-- The worked examples.
use Rattle.std.proofs.Common.{◌≡◌, ℕ, List, [], ◌∷◌, ◌++◌, Some, true, false, length, refl, ap, ◌∙◌, codes, arith}
use Rattle.hm_names.specs.Entities.{named}
use Rattle.hm_run_sources.specs.declared.status.Status.TheVariants.{Good}
use Rattle.hm_uses.specs.declared.name_kind.NameKind.TheVariants.{Variable}
use Rattle.hm_messages_excerpts.specs.Excerpts.{IsRestOfLine}
use Rattle.hm_build_place_texts.specs.Facts.{Binding, Item, at_site, in_module, is_ambiguous, is_prefix, is_unbound, no_declared}
use Rattle.hm_build_places.specs.Answers.{AreFound, IsEntityBound, declared, elsewhere, line_start, no_line, on_line, status_of, undeclared}
use Rattle.hm_build_places.specs.Typed.{IsTypeOf, hidden, no_module, shown, unaccepted}
use Rattle.hm_build_places.specs.TypesAt.{IsOwner, found, of_name, of_pattern, unfound, unknown}
use Rattle.hm_build_places.specs.Worked.{BoundRow, ByteRow, HereRow, NothingRow, PartsRow, TypedRow, nothing}

head_or : ℕ → List ℕ → ℕ
head_or d [] = d
head_or d (x ∷ xs) = x

pub worked_bytes : ByteRow
worked_bytes = record {
  second = record { within = omega arith; starts = λ _. refl; counted = λ _. refl; ends = λ e. let z : 2 ≡ 3 = e in absurd (omega (arith, z)) };
  not_within = λ h. let z : false ≡ true = h.starts (omega arith) in absurd (cc);
  past = record { within = omega arith; starts = λ l. absurd (omega (arith, l)); counted = λ l. absurd (omega (arith, l)); ends = λ _. omega arith };
}

pub worked_parts : PartsRow
unfolding head_or
worked_parts = record {
  in_order = (1 ∷ [], (2 ∷ [], (refl, ((2 ∷ [], ([], (refl, (refl, refl)))), refl))));
  not_turned = λ h. let z : 2 ≡ 1 = ap (head_or 0) (h.1.1.1.1 ∙ ap (λ l. l ++ h.1.0) h.1.1.0) in absurd (omega (arith, z));
}

-- the name of the module in which a name is bound
module_or : List ℕ → Binding → List ℕ
module_or d (at_site s) = d
module_or d (in_module name) = name
module_or d is_prefix = d
module_or d is_unbound = d
module_or d is_ambiguous = d

-- a name of Prelude
in_prelude : (b : Binding) → IsEntityBound nothing Variable (named (codes "Prelude") (codes "not")) b → b ≡ in_module (codes "Prelude")
in_prelude b (declared number at bound) = absurd (omega (arith, number.inside))
in_prelude b (undeclared number at is) = absurd (omega (arith, number.inside))
in_prelude b (elsewhere none is) = is

pub worked_bound : BoundRow
unfolding module_or
worked_bound = record {
  prelude = elsewhere (λ i l. absurd (omega (arith, l))) refl;
  not_elsewhere = λ h. let z : codes "A" ≡ codes "Prelude" = ap (module_or []) (in_prelude (in_module (codes "A")) h) in absurd (omega (arith, ap length z));
  not_unbound = λ h. let z : codes "Prelude" ≡ [] = ap (module_or []) h in absurd (cc);
}

untyped : IsTypeOf nothing Variable (named (codes "A") (codes "x")) no_declared → ⊥
untyped (shown of has is) = absurd (cc)
untyped (hidden of none (found has is)) = absurd (cc)
untyped (hidden of none (unfound is)) = absurd (cc)
untyped (unaccepted none (found has is)) = absurd (cc)
untyped (unaccepted none (unfound is)) = absurd (cc)

pub worked_typed : TypedRow
worked_typed = record {
  unaccepted = unaccepted (no_module (λ i l. absurd (omega (arith, l)))) (unfound refl);
  not_untyped = untyped;
  local = refl;
  not_local = λ e. absurd (cc);
}

not_f : ¬ (codes "f" ≡ codes "()")
not_f e = absurd (omega (arith, ap length e))

no_pattern : ¬ (IsOwner (codes "()") (codes "()") (Some (record { name = codes "()"; own = codes "()" })))
no_pattern (of_name n e) = n refl
no_pattern (of_pattern n e) = absurd (cc)

pub worked_here : HereRow
worked_here = record {
  local = unknown refl;
  unbound_none = λ e. absurd (cc);
  function = of_name not_f refl;
  pattern = no_pattern;
}

no_items : (items : List Item) → AreFound nothing 0 1 1 items → items ≡ []
no_items items (on_line rest byte parts) = parts
no_items items (no_line outside is) = is

not_good : (items : List Item) → items ≡ [] → Good ≡ status_of items → ⊥
not_good [] e s = absurd (cc)
not_good (i ∷ is) e s = absurd (cc)

empty_line : IsRestOfLine [] (line_start 1) []
empty_line = ([], record { before = []; after = []; whole = refl; placed = refl; begins = refl; ends = λ l. absurd (omega (arith, l)); front_plain = λ k d l. absurd (omega (arith, l)); back_plain = λ k d l. absurd (omega (arith, l)) })

no_name : AreFound nothing 0 1 1 []
no_name = on_line {rest = []} {bytes = 0} empty_line (record { within = omega arith; starts = λ l. absurd (omega (arith, l)); counted = λ l. absurd (omega (arith, l)); ends = λ _. omega arith }) refl

pub worked_nothing : NothingRow
worked_nothing = record {
  faulty = λ format. record { items = []; found = no_name; status_is = refl; text_is = refl };
  not_good = λ format text h. not_good h.items (no_items h.items h.found) h.status_is;
}
