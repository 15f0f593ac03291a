-- The texts of documents.
use Rattle.std.proofs.Common.{◌≡◌, ◌≢◌, ℕ, suc, ◌+◌, ◌<◌, ◌≤◌, true, not, List, [], ◌∷◌, ◌++◌, Option, Some, None, length, take, drop, set, get_or, refl, sym, ap, ◌∙◌, arith, if◌then◌else◌, Vec, Global}
use Rattle.std.specs.Prelude.{option_map, string_bytes}
use Rattle.std.specs.List.{list_all}
use Rattle.std.specs.Str.{bytes_eq}
use Rattle.std.proofs.lemmas.Bool.{and_from, and_parts, cond-false, cond-true, false_from_ne_true, not-false, not-true}
use Rattle.std.proofs.lemmas.List.{append-nil, drop_more, set_split, take-append-drop, take_all}
use Rattle.std.proofs.lemmas.List.Folds.{list_all_more}
use Rattle.std.proofs.lemmas.Slice.Eq.{bytes_eq-Decides}
use Rattle.hm_lsp_session.specs.Documents.{IsNumberOf, is_other, text_in}
use Rattle.hm_lsp_session.specs.declared.documents.Document.{Document}

-- the documents before it have other URIs
text_behind : (front rest : List Document) (uri : List ℕ) → list_all (is_other uri) front ≡ true → text_in (front ++ rest) uri ≡ text_in rest uri
text_behind [] rest uri h = refl
text_behind (d ∷ front) rest uri h =
    let parts = and_parts (is_other uri d) (list_all (is_other uri) front) h in
    cond-false _ _ _ (not-true (bytes_eq (string_bytes d.uri) uri) parts.0) ∙ text_behind front rest uri parts.1

whole : (ds : List Document) (i : ℕ) (d : Document) → i < length ds → ds ≡ take i ds ++ (get_or ds i d ∷ drop (i + 1) ds)
whole ds i d low = sym (take-append-drop i ds) ∙ ap (λ (l : List Document). take i ds ++ l) (drop_more ds i d low)

pub text_found : (ds : List Document) (uri : List ℕ) (i : ℕ) (d : Document) → IsNumberOf ds uri (Some i) → text_in ds uri ≡ option_map (λ text. text.items) (get_or ds i d).text
text_found ds uri i d (low, before, here) =
    ap (λ (l : List Document). text_in l uri) (whole ds i d low) ∙ text_behind (take i ds) (get_or ds i d ∷ drop (i + 1) ds) uri before
    ∙ cond-true _ _ _ (not-false (bytes_eq (string_bytes (get_or ds i d).uri) uri) (here d))

pub text_absent : (ds : List Document) (uri : List ℕ) → IsNumberOf ds uri None → None ≡ text_in ds uri
text_absent ds uri h = sym (ap (λ (l : List Document). text_in l uri) (sym (append-nil ds)) ∙ text_behind ds [] uri h)

-- another document in place of one with the same URI
same_others : (front rest : List Document) (d e : Document) (other : List ℕ) → is_other other d ≡ true → is_other other e ≡ true → text_in (front ++ (d ∷ rest)) other ≡ text_in (front ++ (e ∷ rest)) other
same_others [] rest d e other one two =
    cond-false _ _ _ (not-true (bytes_eq (string_bytes d.uri) other) one) ∙ sym (cond-false _ _ _ (not-true (bytes_eq (string_bytes e.uri) other) two))
same_others (f ∷ front) rest d e other one two =
    ap (λ (o : Option (List ℕ)). if bytes_eq (string_bytes f.uri) other then option_map (λ text. text.items) f.text else o) (same_others front rest d e other one two)

others_added : (front : List Document) (d : Document) (other : List ℕ) → is_other other d ≡ true → text_in (front ++ (d ∷ [])) other ≡ text_in front other
others_added [] d other one = cond-false _ _ _ (not-true (bytes_eq (string_bytes d.uri) other) one)
others_added (f ∷ front) d other one =
    ap (λ (o : Option (List ℕ)). if bytes_eq (string_bytes f.uri) other then option_map (λ text. text.items) f.text else o) (others_added front d other one)

not_other : (d : Document) (uri other : List ℕ) → string_bytes d.uri ≡ uri → other ≢ uri → is_other other d ≡ true
not_other d uri other is apart =
    ap not (false_from_ne_true (bytes_eq (string_bytes d.uri) other) (λ t. apart (sym ((bytes_eq-Decides (string_bytes d.uri) other).0 t) ∙ is)))

named : (d : Document) (uri : List ℕ) → string_bytes d.uri ≡ uri → bytes_eq (string_bytes d.uri) uri ≡ true
named d uri is = (bytes_eq-Decides (string_bytes d.uri) uri).1 is

pub now_set : (ds new : List Document) (uri : List ℕ) (i : ℕ) (d : Document) → IsNumberOf ds uri (Some i) → new ≡ take i ds ++ (d ∷ drop (i + 1) ds) → string_bytes d.uri ≡ uri
    → text_in new uri ≡ option_map (λ text. text.items) d.text
now_set ds new uri i d (low, before, here) is uri_is =
    ap (λ (l : List Document). text_in l uri) is ∙ text_behind (take i ds) (d ∷ drop (i + 1) ds) uri before ∙ cond-true _ _ _ (named d uri uri_is)

pub others_set : (ds new : List Document) (uri : List ℕ) (i : ℕ) (d : Document) → IsNumberOf ds uri (Some i) → new ≡ take i ds ++ (d ∷ drop (i + 1) ds) → string_bytes d.uri ≡ uri
    → (other : List ℕ) → other ≢ uri → text_in new other ≡ text_in ds other
others_set ds new uri i d (low, before, here) is uri_is other apart =
    let old : Document = get_or ds i d in
    let old_uri : string_bytes old.uri ≡ uri = (bytes_eq-Decides (string_bytes old.uri) uri).0 (not-false (bytes_eq (string_bytes old.uri) uri) (here d)) in
    ap (λ (l : List Document). text_in l other) is
    ∙ same_others (take i ds) (drop (i + 1) ds) d old other (not_other d uri other uri_is apart) (not_other old uri other old_uri apart)
    ∙ ap (λ (l : List Document). text_in l other) (sym (whole ds i d low))

pub now_added : (ds new : List Document) (uri : List ℕ) (d : Document) → IsNumberOf ds uri None → new ≡ ds ++ (d ∷ []) → string_bytes d.uri ≡ uri → text_in new uri ≡ option_map (λ text. text.items) d.text
now_added ds new uri d h is uri_is = ap (λ (l : List Document). text_in l uri) is ∙ text_behind ds (d ∷ []) uri h ∙ cond-true _ _ _ (named d uri uri_is)

pub others_kept : (ds new : List Document) (uri : List ℕ) (d : Document) → new ≡ ds ++ (d ∷ []) → string_bytes d.uri ≡ uri → (other : List ℕ) → other ≢ uri → text_in new other ≡ text_in ds other
others_kept ds new uri d is uri_is other apart = ap (λ (l : List Document). text_in l other) is ∙ others_added ds d other (not_other d uri other uri_is apart)

pub none_yet : (ds : List Document) (uri : List ℕ) (i : ℕ) → length ds ≤ i → list_all (is_other uri) (take i ds) ≡ true → IsNumberOf ds uri None
none_yet ds uri i ends h = ap (list_all (is_other uri)) (sym (take_all i ds ends)) ∙ h

pub one_more : (ds : List Document) (uri : List ℕ) (i : ℕ) (d : Document) → i < length ds → list_all (is_other uri) (take i ds) ≡ true → is_other uri (get_or ds i d) ≡ true
    → list_all (is_other uri) (take (i + 1) ds) ≡ true
one_more ds uri i d low before here = list_all_more (is_other uri) ds i d low ∙ and_from _ _ before here

pub text_some : (ds : List Document) (uri : List ℕ) (i : ℕ) (d : Document) (t : Vec ℕ Global) (now : List ℕ) → IsNumberOf ds uri (Some i) → d ≡ get_or ds i d → d.text ≡ Some t → now ≡ t.items → Some now ≡ text_in ds uri
text_some ds uri i d t now h here is same =
    sym (text_found ds uri i d h ∙ ap (λ (x : Document). option_map (λ text. text.items) x.text) (sym here) ∙ ap (option_map (λ text. text.items)) is ∙ ap Some (sym same))

pub text_closed : (ds : List Document) (uri : List ℕ) (i : ℕ) (d : Document) → IsNumberOf ds uri (Some i) → d ≡ get_or ds i d → d.text ≡ None → None ≡ text_in ds uri
text_closed ds uri i d h here is = sym (text_found ds uri i d h ∙ ap (λ (x : Document). option_map (λ text. text.items) x.text) (sym here) ∙ ap (option_map (λ text. text.items)) is)

-- the text of one document, and those of all others
abbrev IsTextNow : List Document → List Document → List ℕ → Option (List ℕ) → Type 0
IsTextNow ds new uri text = (text_in new uri ≡ text) × ((other : List ℕ) → other ≢ uri → text_in new other ≡ text_in ds other)

pub set_held : (ds new : List Document) (uri : List ℕ) (i : ℕ) (d old : Document) (text : Option (Vec ℕ Global)) → IsNumberOf ds uri (Some i) → new ≡ set ds i d → old ≡ get_or ds i old → d.uri ≡ old.uri → d.text ≡ text
    → IsTextNow ds new uri (option_map (λ t. t.items) text)
set_held ds new uri i d old text h is here same text_is =
    let low : i < length ds = h.0 in
    let old_uri : string_bytes (get_or ds i old).uri ≡ uri = (bytes_eq-Decides (string_bytes (get_or ds i old).uri) uri).0 (not-false (bytes_eq (string_bytes (get_or ds i old).uri) uri) (h.2 old)) in
    let uri_is : string_bytes d.uri ≡ uri = ap string_bytes (same ∙ ap (λ (x : Document). x.uri) here) ∙ old_uri in
    let next : suc i ≡ i + 1 = omega arith in
    let split : new ≡ take i ds ++ (d ∷ drop (i + 1) ds) = is ∙ set_split ds i d low ∙ ap (λ (k : ℕ). take i ds ++ (d ∷ drop k ds)) next in
    (now_set ds new uri i d h split uri_is ∙ ap (option_map (λ t. t.items)) text_is, others_set ds new uri i d h split uri_is)

pub push_held : (ds new : List Document) (uri : List ℕ) (d : Document) (text : Option (Vec ℕ Global)) → IsNumberOf ds uri None → new ≡ ds ++ (d ∷ []) → string_bytes d.uri ≡ uri → d.text ≡ text
    → IsTextNow ds new uri (option_map (λ t. t.items) text)
push_held ds new uri d text h is uri_is text_is = (now_added ds new uri d h is uri_is ∙ ap (option_map (λ t. t.items)) text_is, others_kept ds new uri d is uri_is)
