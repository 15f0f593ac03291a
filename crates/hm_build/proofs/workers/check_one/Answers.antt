use Rattle.std.proofs.Common.{◌≡◌, ◌<◌, ℕ, List, [], Some, Option, length, map, refl, slice_get, slice_index_or, ap, sym, ◌∙◌, subst}
use Rattle.std.specs.Prelude.{All}
use Rattle.std.specs.Arc.{arc_value}
use Rattle.hm_types.specs.Interfaces.{Exports as Interface}
use Rattle.hm_names.specs.Imports.{AreImportsOf}
use Rattle.hm_verdicts.specs.Sets.{no_module}
use Rattle.hm_store_published.specs.Publications.{IsPublishedIn, interface_in}
use Rattle.hm_check.specs.Refusals.{IsRefused}
use Rattle.hm_check.specs.declared.checking.CheckFault.{CheckFault}
use Rattle.hm_check.specs.declared.checking.CheckFault.TheVariants.{Imports}
use Rattle.hm_store_shared.specs.Passes.{seen_of}
use Rattle.hm_store_shared.proofs.Refusing.{rows_through}
use Rattle.hm_build.proofs.JobRows.{got_at, map_twice, published_in_row, row_within, taken_at}
use Rattle.hm_build.proofs.workers.check_one.Goals as goal

abbrev some_of : List Interface → List (Option Interface)
some_of fs = map (λ f. Some f) fs

pub look_at_all-requires-clause-published : goal.look_at_all-requires-clause-published
look_at_all-requires-clause-published g c =
    let rows = c.args.work.now.imports.now in
    let lt : c.args.number < length rows = row_within (λ r. r.items) _ rows c.args.number c.requires.work.rows_are c.requires.within.1 in
    let row : c.as_slice-numbers.result.now ≡ slice_index_or g.L.Naming.plan c.args.number [] =
    c.as_slice-numbers.ensures.value ∙ (taken_at (λ r. r.items) rows c.args.number c.index-work-number.result [] lt ∙ ap (λ p. slice_index_or p c.args.number []) c.requires.work.rows_are) in
    published_in_row g.L.Naming.plan c.args.number c.as_slice-numbers.result.now (seen_of c.args.pass.now) c.requires.imports row

pub unreachable-requires : goal.unreachable-requires
unreachable-requires g c =
    let n = c.args.number in
    let rows = c.args.work.now.imports.now in
    let modules = c.args.work.now.modules.now in
    let lt : n < length rows = row_within (λ r. r.items) _ rows n c.requires.work.rows_are c.requires.within.1 in
    let inside : n < length modules = row_within arc_value _ modules n c.requires.work.modules_are c.requires.within.0 in
    let row = c.as_slice-numbers.ensures.value ∙ (taken_at (λ r. r.items) rows n c.index-work-number.result [] lt ∙ ap (λ p. slice_index_or p n []) c.requires.work.rows_are) in
    let fs = map arc_value c.in-Ok.interfaces.items in
    let found = map_twice arc_value (λ f. Some f) c.in-Ok.interfaces.items ∙ (c.in-Ok.ensures.reply ∙ ap (map _) row) in
    let asked : AreImportsOf (slice_index_or g.L.Naming.modules n no_module) fs = c.seen_imports_are_asked_for.ensures g.L.Naming.modules g.L.Naming.plan (seen_of c.args.pass.now) n fs c.requires.work.lawful c.requires.lawful c.requires.within.0 found in
    let here = taken_at arc_value modules n c.index-work-number-2.result no_module inside ∙ ap (λ ms. slice_index_or ms n no_module) c.requires.work.modules_are in
    let lent : map arc_value c.as_slice.result.now ≡ fs = ap (map arc_value) c.as_slice.ensures.value in
    let refused : IsRefused (arc_value (slice_index_or modules n c.index-work-number-2.result)) (map arc_value c.as_slice.result.now) Imports =
    subst (λ (e : CheckFault). IsRefused (arc_value (slice_index_or modules n c.index-work-number-2.result)) (map arc_value c.as_slice.result.now) e) c.in-Err-Imports.field-0-is c.in-Err-Imports.ensures.refused in
    refused (subst (λ xs. AreImportsOf (arc_value (slice_index_or modules n c.index-work-number-2.result)) xs) (sym lent) (subst (λ m. AreImportsOf m fs) (sym here) asked))

pub settle-requires-clause-fits : goal.settle-requires-clause-fits
settle-requires-clause-fits g c =
    let n = c.args.number in
    let rows = c.args.work.now.imports.now in
    let modules = c.args.work.now.modules.now in
    let before = seen_of c.args.pass.now in
    let after = seen_of c.look_at_all.new.self in
    let planned : List ℕ = slice_index_or g.L.Naming.plan n [] in
    let lt : n < length rows = row_within (λ r. r.items) _ rows n c.requires.work.rows_are c.requires.within.1 in
    let inside : n < length modules = row_within arc_value _ modules n c.requires.work.modules_are c.requires.within.0 in
    let row = c.as_slice-numbers.ensures.value ∙ (taken_at (λ r. r.items) rows n c.index-work-number.result [] lt ∙ ap (λ p. slice_index_or p n []) c.requires.work.rows_are) in
    let found : some_of (map arc_value c.in-Ok.interfaces.items) ≡ map (interface_in before) planned = map_twice arc_value (λ f. Some f) c.in-Ok.interfaces.items ∙ (c.in-Ok.ensures.reply ∙ ap (map _) row) in
    let published : All (IsPublishedIn before) planned = published_in_row g.L.Naming.plan n planned before c.requires.imports refl in
    let later : map (interface_in before) planned ≡ map (interface_in after) planned = rows_through before after c.look_at_all.ensures.list planned published in
    let out = c.in-Ok-outcome_of.ensures in
    record {
      subject = sym (ap (λ ms. slice_get ms n) c.requires.work.modules_are) ∙ (got_at arc_value modules n c.index-work-number-2.result inside ∙ ap (λ m. Some m) (sym out.module));
      imports = ap some_of (out.imports ∙ ap (map arc_value) c.as_slice.ensures.value) ∙ (found ∙ later);
    }
