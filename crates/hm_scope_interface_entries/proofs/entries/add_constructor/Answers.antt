use Rattle.std.proofs.Common.{◌∙◌, sym, ap, Some, List, ℕ, Bor}
use Rattle.hm_scope_interface_entries.specs.declared.known_exports.KnownConstructor.{KnownConstructor}
use Rattle.hm_scope_interface_entries.proofs.EntriesMade.{counted, owned, constructors_skipped, constructor_added}
use Rattle.hm_names.specs.DeclaredSchemes.{fact_in}
use Rattle.hm_scope_interface_entries.specs.KnownExports.{fact, source_of}
use Rattle.hm_syntax.specs.Trees.{DataConstructor}
use Rattle.hm_names.specs.Entities.{named}
use Rattle.hm_scope_interface_entries.proofs.entries.add_constructor.Goals as goal

pub returns-in_default : goal.returns-in_default
returns-in_default c = λ k xs home known up are. constructors_skipped c.args.known.now c.key_of.result c.args.exported.now c.key_of.ensures k xs known up c.args.constructors.now.items c.in_default.ensures.value are

pub returns-in_ok-push_constructor-in-Declared : goal.returns-in_ok-push_constructor-in-Declared
returns-in_ok-push_constructor-in-Declared c = λ k xs home known up are.
    let told = λ (v : KnownConstructor). fact k.name (source_of v) in
    let t = c.in-Declared.owner.now in
    let ps = c.in-Declared.params.now in
    let d = c.in-Declared.constr.now in
    constructor_added c.args.known.now c.key_of.result c.args.exported.now c.key_of.ensures k xs known up c.in-Some.known.now c.in-Some.ensures.value _ _ _
    (c.in_ok-owner-in-Declared.ensures ∙ (ap (λ (m : List ℕ). named m t.text) home ∙ (owned k.name t ps d ∙ ap (λ v. (told v).owner) (sym c.in-Declared.is))))
    (c.len.ensures ∙ (c.constr.inside.now.args.ok.0 ∙ counted k.name t ps c.constr.inside.now.name c.constr.inside.now.args.items d (ap (λ (b : Bor DataConstructor). b.now) c.constr.view_is) ∙ ap (λ v. (told v).arguments) (sym c.in-Declared.is)))
    (c.in_ok-scheme-in-Declared.ensures (c.requires c.key_of.result c.in-Declared.owner c.in-Declared.params c.in-Declared.constr (sym c.in-Some.ensures.value ∙ ap Some c.in-Declared.is)) ∙ (ap (λ (m : List ℕ). (fact_in m t ps d).scheme) home ∙ ap (λ v. (told v).scheme) (sym c.in-Declared.is)))
    c.args.constructors.now.items c.push_constructor.new.constructors.items c.in_ok-push_constructor-in-Declared.ensures are

pub returns-in_ok-push_constructor-in-Imported : goal.returns-in_ok-push_constructor-in-Imported
returns-in_ok-push_constructor-in-Imported c = λ k xs home known up are.
    let told = λ (v : KnownConstructor). fact k.name (source_of v) in
    constructor_added c.args.known.now c.key_of.result c.args.exported.now c.key_of.ensures k xs known up c.in-Some.known.now c.in-Some.ensures.value _ _ _
    (c.in_ok-owner-in-Imported.ensures ∙ ap (λ v. (told v).owner) (sym c.in-Imported.is))
    (ap (λ v. (told v).arguments) (sym c.in-Imported.is))
    (c.in_ok-scheme-in-Imported.ensures ∙ ap (λ v. (told v).scheme) (sym c.in-Imported.is))
    c.args.constructors.now.items c.push_constructor-in-Imported.new.constructors.items c.in_ok-push_constructor-in-Imported.ensures are
