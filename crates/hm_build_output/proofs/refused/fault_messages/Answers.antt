use Rattle.std.proofs.Common.{rules, ◌≡◌, ◌∙◌, ◌+◌, ◌++◌, None, Option, Some, List, [], ℕ, ap, get_or, subst, sym}
use Rattle.std.proofs.lemmas.List.{get_or-map}
use Rattle.std.specs.Global.{Vec}
use Rattle.hm_messages.specs.FurtherFaults.{IsFirstFault}
use Rattle.hm_messages.specs.Pages.{files_in, texts_in}
use Rattle.hm_messages.specs.Refused.{AreRefusalMessages}
use Rattle.hm_run_sources.specs.Refusals.{Refusal}
use Rattle.hm_build_output.proofs.Further.{told_first, told_none}
use Rattle.hm_build_output.proofs.refused.fault_messages.Goals as goal

pub returns-in_default : goal.returns-in_default
returns-in_default c =
    let files = files_in c.args.pages.now.items.items in
    let texts : List (List ℕ) = texts_in c.args.pages.now.items.items in
    let source = c.args.source in
    let bytes : c.as_slice-bytes.result.now ≡ get_or texts source [] =
    c.as_slice-bytes.ensures.value
    ∙ (ap (λ (v : Vec ℕ). v.items) c.index-sources-source.is
    ∙ (sym (get_or-map (λ (v : Vec ℕ). v.items) c.args.sources.now source _ [] c.requires.within) ∙ ap (λ (l : List (List ℕ)). get_or l source []) (sym c.requires.texts))) in
    let none : c.in_ok-fault.field-0 ≡ None = search rules in
    let first : IsFirstFault (source + 1) (get_or texts source []) None =
    subst (λ (o : Option Refusal). IsFirstFault (source + 1) (get_or texts source []) o) none
    (subst (λ (s : List ℕ). IsFirstFault (source + 1) s c.in_ok-fault.field-0) bytes c.in_ok-fault.ensures) in
    let empty : c.new.result.items ≡ [] = search rules in
    rw empty (told_none c.args.pages.now.format files texts source first)

pub returns : goal.returns
returns c =
    let format = c.args.pages.now.format in
    let files = files_in c.args.pages.now.items.items in
    let texts : List (List ℕ) = texts_in c.args.pages.now.items.items in
    let source = c.args.source in
    let fault : Refusal = c.in-Some.fault in
    let message = c.in-Ok.text.items in
    let later = c.in_ok-later.later in
    let bytes : c.as_slice-bytes.result.now ≡ get_or texts source [] =
    c.as_slice-bytes.ensures.value
    ∙ (ap (λ (v : Vec ℕ). v.items) c.index-sources-source.is
    ∙ (sym (get_or-map (λ (v : Vec ℕ). v.items) c.args.sources.now source _ [] c.requires.within) ∙ ap (λ (l : List (List ℕ)). get_or l source []) (sym c.requires.texts))) in
    let some : c.in_ok-fault.field-0 ≡ Some fault = search rules in
    let first : IsFirstFault (source + 1) (get_or texts source []) (Some fault) =
    subst (λ (o : Option Refusal). IsFirstFault (source + 1) (get_or texts source []) o) some
    (subst (λ (s : List ℕ). IsFirstFault (source + 1) s c.in_ok-fault.field-0) bytes c.in_ok-fault.ensures) in
    let tells : AreRefusalMessages format files texts fault 1 message = search rules in
    let text : c.add.new.all.text.items ≡ message ++ later.text.items = search rules in
    let errors : c.add.new.all.errors ≡ 1 + later.errors = search rules in
    rw (text, errors) (told_first format files texts source later.errors fault message later.text.items first tells c.in_ok-later.ensures)
