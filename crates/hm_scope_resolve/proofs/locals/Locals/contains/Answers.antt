use Rattle.std.proofs.Common.{◌≡◌, List, ℕ, length, vec_len, true, false, ap, sym, ◌∙◌, arith, is_some}
use Rattle.std.proofs.lemmas.Bool.Decides.{Decides-eqb}
use Rattle.hm_names.specs.Texts.{is_text_among}
use Rattle.hm_names.specs.Found.{all_of}
use Rattle.hm_scope_resolve.proofs.DepthTables.{has_depth, here_in_few, nowhere, in_others}
use Rattle.hm_scope_resolve.proofs.locals.Locals.contains.Goals as goal

pub returns-then-is_in_any : goal.returns-then-is_in_any
returns-then-is_in_any c =
    let here : is_text_among c.args.text.now (all_of c.self.inside.few.items) ≡ true = ap (λ (l : List (List (List ℕ))). is_text_among c.args.text.now (all_of l)) (sym c.deref.ensures.value) ∙ (sym c.is_in_any.ensures ∙ c.if-is_in_any.true) in
    here_in_few c.self.inside.few.items c.self.inside.groups.items c.args.text.now here ∙ ap (λ l. is_text_among c.args.text.now (all_of l)) c.self.view_is

pub returns-then-is_empty : goal.returns-then-is_empty
returns-then-is_empty c =
    let absent : is_text_among c.args.text.now (all_of c.self.inside.few.items) ≡ false = ap (λ (l : List (List (List ℕ))). is_text_among c.args.text.now (all_of l)) (sym c.deref.ensures.value) ∙ (sym c.is_in_any.ensures ∙ c.if-is_in_any.false) in
    let zero : vec_len c.self.inside.groups ≡ 0 = (Decides-eqb (vec_len c.self.inside.groups) 0).0 (sym c.is_empty.ensures ∙ c.if-is_empty.true) in
    let none : length c.self.inside.groups.items ≡ 0 = omega (arith, zero, c.self.inside.groups.ok.0) in
    nowhere c.self.inside.few.items c.self.inside.groups.items c.args.text.now absent none ∙ ap (λ l. is_text_among c.args.text.now (all_of l)) c.self.view_is

pub returns : goal.returns
returns c =
    let absent : is_text_among c.args.text.now (all_of c.self.inside.few.items) ≡ false = ap (λ (l : List (List (List ℕ))). is_text_among c.args.text.now (all_of l)) (sym c.deref.ensures.value) ∙ (sym c.is_in_any.ensures ∙ c.if-is_in_any.false) in
    c.contains_key.ensures ∙ (ap is_some (c.self.invariant c.args.text.now) ∙ (has_depth c.self.inside.groups.items c.args.text.now
    ∙ (in_others c.self.inside.few.items c.self.inside.groups.items c.args.text.now absent ∙ ap (λ l. is_text_among c.args.text.now (all_of l)) c.self.view_is)))
