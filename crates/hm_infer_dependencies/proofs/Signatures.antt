-- Texts of signatures.
use Rattle.std.proofs.Common.{◌≡◌, ℕ, Bool, true, false, List, [], ◌∷◌, ◌++◌, ◌||◌, Option, Some, is_some, inl, inr, cond, bytes_eq, Bor, refl, sym, ap, ◌∙◌, subst}
use Rattle.std.specs.List.{list_any}
use Rattle.std.proofs.lemmas.Bool.{cases_Bool}
use Rattle.std.proofs.lemmas.Slice.Eq.{bytes_eq-Decides}
use Rattle.indexmap.specs.IndexSet.{insert_key}
use Rattle.hm_syntax.specs.Names.{Identifier}
use Rattle.hm_syntax.specs.Trees.{Declaration, data_declaration, newtype_declaration, synonym_declaration, signature, clause, pattern_binding, Declarations, no_declarations, more_declarations}
use Rattle.hm_syntax.specs.Lists.{declarations}
use Rattle.hm_names.specs.Syntax.{is_signed_among}
use Rattle.hm_names.specs.Texts.{same_text}
use Rattle.hm_infer_dependencies.specs.Nodes.{Texts, has_text, is_signed}

or_false : (b : Bool) → (b || false) ≡ b
or_false true = refl
or_false false = refl

or_assoc : (a b c : Bool) → ((a || b) || c) ≡ (b || (a || c))
or_assoc true true c = refl
or_assoc true false c = refl
or_assoc false b c = refl

-- a text more
any_more : (x : List ℕ) (ks : List (Bor (List ℕ))) (key : Bor (List ℕ)) → list_any (λ k. bytes_eq x k.now) (ks ++ key ∷ []) ≡ (bytes_eq x key.now || list_any (λ k. bytes_eq x k.now) ks)
any_more x [] key = refl
any_more x (k ∷ ks) key = ap (λ b. bytes_eq x k.now || b) (any_more x ks key) ∙ swap (bytes_eq x k.now) (bytes_eq x key.now) (list_any (λ k. bytes_eq x k.now) ks)
  where
    swap : (a b c : Bool) → (a || (b || c)) ≡ (b || (a || c))
    swap true true c = refl
    swap true false c = refl
    swap false b c = refl

or_there : (a b : Bool) → (a ≡ true → b ≡ true) → b ≡ (a || b)
or_there true b h = h refl
or_there false b h = refl

any_inserted : (x : List ℕ) (ks : List (Bor (List ℕ))) (key : Bor (List ℕ)) → list_any (λ k. bytes_eq x k.now) (insert_key (λ a b. bytes_eq a.now b.now) ks key) ≡ (bytes_eq x key.now || list_any (λ k. bytes_eq x k.now) ks)
any_inserted x ks key = elim (cases_Bool (list_any (λ k. bytes_eq key.now k.now) ks)) [
  | inl there ↦ rw there (or_there (bytes_eq x key.now) (list_any (λ k. bytes_eq x k.now) ks) (λ e. subst (λ z. list_any (λ k. bytes_eq z k.now) ks ≡ true) (sym ((bytes_eq-Decides x key.now).0 e)) there))
  | inr absent ↦ rw absent (any_more x ks key)
]

pub text_step : (x : List ℕ) (old new : Texts) (n : Identifier) (key : Bor (List ℕ)) (left rest : List Identifier) → key.now ≡ n.text → left ≡ n ∷ rest → new.keys ≡ insert_key (λ a b. bytes_eq a.now b.now) old.keys key
    → (is_signed_among x rest || has_text new x) ≡ (is_signed_among x left || has_text old x)
text_step x old new n key left rest e f u =
    let there : has_text new x ≡ (same_text x n.text || has_text old x) = ap (λ ks. list_any (λ k. bytes_eq x k.now) ks) u ∙ (any_inserted x old.keys key ∙ ap (λ t. bytes_eq x t || has_text old x) e) in
    ap (λ b. is_signed_among x rest || b) there
    ∙ (sym (or_assoc (same_text x n.text) (is_signed_among x rest) (has_text old x))
    ∙ sym (ap (λ ns. is_signed_among x ns || has_text old x) f))

cond_some : {X : Type 0} (b : Bool) (x : X) (o : Option X) → is_some (cond b (Some x) o) ≡ (b || is_some o)
cond_some true x o = refl
cond_some false x o = refl

-- a declaration before others
pub is_signed-more : (d : Declaration) (ds : Declarations) (x : List ℕ) → is_signed (more_declarations d ds) x ≡ (is_signed (more_declarations d no_declarations) x || is_signed ds x)
is_signed-more (data_declaration n ps cs) ds x = refl
is_signed-more (newtype_declaration n ps c) ds x = refl
is_signed-more (synonym_declaration n ps t) ds x = refl
is_signed-more (signature ns t) ds x = cond_some (is_signed_among x ns) _ _ ∙ ap (λ b. b || is_signed ds x) (sym (cond_some (is_signed_among x ns) _ _ ∙ or_false (is_signed_among x ns)))
is_signed-more (clause n ps r) ds x = refl
is_signed-more (pattern_binding l c p r) ds x = refl

pub signed_step : (d : Declaration) (left rest : List Declaration) (all : Bool) (x : List ℕ) (h h' : Bool) → left ≡ d ∷ rest → h' ≡ (is_signed (more_declarations d no_declarations) x || h) →
    (is_signed (declarations left) x || h) ≡ all → (is_signed (declarations rest) x || h') ≡ all
signed_step d left rest all x h h' e f g =
    ap (λ b. is_signed (declarations rest) x || b) f
    ∙ (sym (or_assoc (is_signed (more_declarations d no_declarations) x) (is_signed (declarations rest) x) h)
    ∙ (ap (λ b. b || h) (sym (is_signed-more d (declarations rest) x))
    ∙ (ap (λ ds. is_signed (declarations ds) x || h) (sym e) ∙ g)))

pub not_yet : (b : Bool) (x : List ℕ) (texts : Texts) → has_text texts x ≡ false → (b || has_text texts x) ≡ b
not_yet b x texts e = ap (λ c. b || c) e ∙ or_false b
