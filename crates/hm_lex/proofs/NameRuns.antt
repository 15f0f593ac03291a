-- Names and their qualifiers, at the front of some bytes.
use Rattle.std.proofs.Common.{◌≡◌, ◌≢◌, ◌⊎◌, ℕ, zero, suc, ◌+◌, ◌<◌, ◌≤◌, Bool, true, false, List, [], ◌∷◌, ◌++◌, length, get_or, take, drop, refl, sym, ap, ◌∙◌, subst, inl, inr, arith, append_assoc, length-append, length-take-le, length-drop, take-append-drop, add-zero, add_assoc, zero-add, suc-add, ltb}
use Rattle.std.specs.List.{AllByRecursion, prefix_len, flat_map}
use Rattle.std.proofs.lemmas.List.{take_more, drop_more, get_or_at, drop-drop, append-nil, get_or-drop, drop_at, take_all}
use Rattle.std.proofs.lemmas.Bool.{le-leb}
use Rattle.hm_lex.specs.declared.byte_class.ByteClass.{ByteClass}
use Rattle.hm_lex.specs.declared.byte_class.ByteClass.TheVariants.{White, Small, Capital, Digit, Symbol, Special, Quote, DoubleQuote, Other}
use Rattle.hm_lex.specs.Bytes.{class_of, is_of_name, is_name_byte, is_capital, is_capital_class}
use Rattle.hm_lex.specs.Names.{IsNameFrom, IsCapitalName, is_reserved, dotted, qualified}
use Rattle.hm_lex.specs.declared.token.Kind.TheVariants.{Word, VarId, ConId, QVarId, QConId}
use Rattle.hm_lex.specs.Shapes.{Shape, HasShape, lexeme, malformed}
use Rattle.hm_lex.specs.Cut.{Begins, IsLongest}
use Rattle.hm_lex.specs.Next.{begins_name, is_name_class, StartsName, StartsWith, IsQualifierOf, NoQualifier, name_shape}
use Rattle.hm_lex.proofs.Prefix.{IsPrefix, prefix_of_append, prefix_from, begins_from, begins_take, run_passes, run_bound, run_whole, run_le, run_more, prefix_after}
use Rattle.hm_lex.proofs.ByFirst.{AreNameBytes, dot_not_of_name, qualified_cons, name_bytes, is_capital_is, CapitalForm, FromFirst, first}
use Rattle.std.proofs.lemmas.Bool.{false≢true}
use Rattle.hm_lex.specs.Faults.{OpenCommentBegins}
use Rattle.hm_lex.proofs.Malformed.{no_open_comment}
use Rattle.hm_lex.proofs.OneShape.{capital_bytes, last_bytes}

name_class_of_name : (c : ByteClass) → is_name_class c ≡ true → is_of_name c ≡ true
name_class_of_name Small e = refl
name_class_of_name Capital e = refl
name_class_of_name White e = absurd cc
name_class_of_name Digit e = absurd cc
name_class_of_name Symbol e = absurd cc
name_class_of_name Special e = absurd cc
name_class_of_name Quote e = absurd cc
name_class_of_name DoubleQuote e = absurd cc
name_class_of_name Other e = absurd cc

pub starts_nonempty : (bytes : List ℕ) → StartsName bytes → 0 < length bytes
starts_nonempty [] s = absurd s
starts_nonempty (b ∷ bs) s = omega arith

-- the run of name bytes at the front of a name is a name
pub name_at_front : (class : ByteClass) (bytes : List ℕ) → StartsName bytes → class_of (get_or bytes 0 0) ≡ class → IsNameFrom class (take (prefix_len is_name_byte bytes) bytes)
name_at_front class [] s e = absurd s
name_at_front class (b ∷ bs) s e =
    subst (λ (n : ℕ). IsNameFrom class (take n (b ∷ bs))) (sym (run_more is_name_byte b bs (name_class_of_name (class_of b) s))) (e, run_passes is_name_byte bs)

-- what the code tests
pub record QualifierTests (bytes : List ℕ) : Type 0 where
  pub room : prefix_len is_name_byte bytes + 1 < length bytes
  pub dot : get_or bytes (prefix_len is_name_byte bytes) 0 ≡ 46
  pub capital : is_capital (get_or bytes 0 0) ≡ true
  pub next : begins_name (get_or bytes (prefix_len is_name_byte bytes + 1) 0) ≡ true

starts_at : (bytes : List ℕ) (n : ℕ) → n < length bytes → begins_name (get_or bytes n 0) ≡ true → StartsName (drop n bytes)
starts_at bytes n lt e = subst (λ (t : List ℕ). StartsName t) (sym (drop_more bytes n 0 lt)) e

pub qualifier_from_tests : (bytes : List ℕ) → StartsName bytes → QualifierTests bytes → IsQualifierOf (prefix_len is_name_byte bytes + 1) bytes
qualifier_from_tests bytes s t = record {
  name = take (prefix_len is_name_byte bytes) bytes;
  capital = name_at_front Capital bytes s (is_capital_is (class_of (get_or bytes 0 0)) t.capital);
  front = take_more bytes (prefix_len is_name_byte bytes) 0 (omega (arith, t.room)) ∙ ap (λ (d : ℕ). take (prefix_len is_name_byte bytes) bytes ++ d ∷ []) t.dot;
  follows = starts_at bytes (prefix_len is_name_byte bytes + 1) t.room t.next;
}

head_of_name : (name rest : List ℕ) → IsCapitalName name → is_capital (get_or (name ++ 46 ∷ rest) 0 0) ≡ true
head_of_name [] rest c = absurd c
head_of_name (b ∷ bs) rest c = ap is_capital_class c.0

head_starts : (rest : List ℕ) → StartsName rest → begins_name (get_or rest 0 0) ≡ true
head_starts [] s = absurd s
head_starts (b ∷ bs) s = s

tests_at : (name rest : List ℕ) → IsCapitalName name → StartsName rest → QualifierTests (name ++ 46 ∷ rest)
tests_at name rest c s =
    let bytes : List ℕ = name ++ 46 ∷ rest in
    let n : length name ≡ prefix_len is_name_byte bytes = run_whole is_name_byte name 46 rest bytes (capital_bytes name c) dot_not_of_name (subst (λ (t : List ℕ). IsPrefix (name ++ 46 ∷ rest) t) (append-nil bytes) (prefix_of_append bytes [])) in
    record {
      room = omega (arith, n, length-append name (46 ∷ rest), starts_nonempty rest s);
      dot = ap (λ (k : ℕ). get_or bytes k 0) (sym n) ∙ get_or_at name 46 rest 0 (length name) refl;
      capital = head_of_name name rest c;
      next =
          let at : get_or bytes (prefix_len is_name_byte bytes + 1) 0 ≡ get_or rest 0 0 = ap (λ (k : ℕ). get_or bytes (k + 1) 0) (sym n) ∙ ap (λ (k : ℕ). get_or bytes k 0) (sym (add-zero (length name + 1))) ∙ sym (get_or-drop (length name + 1) bytes 0 0) ∙ ap (λ (t : List ℕ). get_or t 0 0) (drop_dotted name rest) in
          ap begins_name at ∙ head_starts rest s;
    }
  where
    drop_dotted : (q t : List ℕ) → drop (length q + 1) (q ++ 46 ∷ t) ≡ t
    drop_dotted q t = ap (drop (length q + 1)) (sym (append_assoc q (46 ∷ []) t)) ∙ drop_at (q ++ 46 ∷ []) t (length q + 1) (length-append q (46 ∷ []))

pub tests_from_qualifier : (bytes name rest : List ℕ) → IsCapitalName name → StartsName rest → name ++ 46 ∷ rest ≡ bytes → QualifierTests bytes
tests_from_qualifier bytes name rest c s e = subst (λ (t : List ℕ). QualifierTests t) e (tests_at name rest c s)

-- ---- how long a name at the front can be

abbrev pub NameBound : ℕ → List ℕ → Type 0
NameBound k bytes =
    (qs : List (List ℕ)) (last : List ℕ) → AllByRecursion IsCapitalName qs → StartsName last → AreNameBytes last
    → IsPrefix (qualified qs last) bytes → length (qualified qs last) ≤ k

starts_qualified : (qs : List (List ℕ)) (last : List ℕ) → AllByRecursion IsCapitalName qs → StartsName last → StartsName (qualified qs last)
starts_qualified [] last a s = s
starts_qualified ([] ∷ qs) last a s = absurd a.0
starts_qualified ((b ∷ bs) ∷ qs) last a s = ap is_name_class a.0.0

-- what follows a name and a dot, where both stand at the front
after_dot : (q t bytes : List ℕ) → IsPrefix (q ++ 46 ∷ t) bytes → IsPrefix t (drop (length q + 1) bytes)
after_dot q t bytes p =
    let p' : IsPrefix ((q ++ 46 ∷ []) ++ t) bytes = subst (λ (x : List ℕ). IsPrefix x bytes) (sym (append_assoc q (46 ∷ []) t)) p in
    let n : length (q ++ 46 ∷ []) ≡ length q + 1 = length-append q (46 ∷ []) in
    subst (λ (k : ℕ). IsPrefix t (drop k bytes)) n (prefix_after (q ++ 46 ∷ []) t bytes p')

starts_more : (t more : List ℕ) → StartsName t → StartsName (t ++ more)
starts_more [] more s = absurd s
starts_more (b ∷ bs) more s = s

-- with no qualifier the run of name bytes is all
pub bound_at_last : (bytes : List ℕ) → NoQualifier bytes → NameBound (prefix_len is_name_byte bytes) bytes
bound_at_last bytes none [] last a s m p = run_bound is_name_byte last bytes m p
bound_at_last bytes none (q ∷ qs) last a s m p =
    let front : IsPrefix (q ++ 46 ∷ qualified qs last) bytes = subst (λ (t : List ℕ). IsPrefix t bytes) (qualified_cons q qs last) p in
    let b = begins_from (q ++ 46 ∷ qualified qs last) bytes front in
    absurd (none q (qualified qs last ++ b.0) a.0 (starts_more (qualified qs last) b.0 (starts_qualified qs last a.1 s)) (sym (append_assoc q (46 ∷ qualified qs last) b.0) ∙ b.1))

-- past a qualifier
pub bound_past : (bytes : List ℕ) (len k : ℕ) → IsQualifierOf len bytes → len ≤ length bytes → NameBound k (drop len bytes) → NameBound (len + k) bytes
bound_past bytes len k q within bound qs last a s m p =
    let front : dotted q.name ++ drop len bytes ≡ bytes = ap (λ (t : List ℕ). t ++ drop len bytes) (sym q.front) ∙ take-append-drop len bytes in
    let whole : IsPrefix (q.name ++ 46 ∷ drop len bytes) bytes = prefix_from (q.name ++ 46 ∷ drop len bytes) bytes ([], append-nil (q.name ++ 46 ∷ drop len bytes) ∙ sym (append_assoc q.name (46 ∷ []) (drop len bytes)) ∙ front) in
    let run : length q.name ≡ prefix_len is_name_byte bytes = run_whole is_name_byte q.name 46 (drop len bytes) bytes (capital_bytes q.name q.capital) dot_not_of_name whole in
    let size : length q.name + 1 ≡ len = sym (length-append q.name (46 ∷ [])) ∙ sym (ap length q.front) ∙ length-take-le len bytes within in
    past qs a p run size
  where
    past : (qs : List (List ℕ)) → AllByRecursion IsCapitalName qs → IsPrefix (qualified qs last) bytes → length q.name ≡ prefix_len is_name_byte bytes → length q.name + 1 ≡ len → length (qualified qs last) ≤ len + k
    past [] a p run size = omega (arith, run_bound is_name_byte last bytes m p)
    past (r ∷ rs) a p run size =
        let front : IsPrefix (r ++ 46 ∷ qualified rs last) bytes = subst (λ (t : List ℕ). IsPrefix t bytes) (qualified_cons r rs last) p in
        let same : length r ≡ prefix_len is_name_byte bytes = run_whole is_name_byte r 46 (qualified rs last) bytes (capital_bytes r a.0) dot_not_of_name front in
        let len_is : length r + 1 ≡ len = omega arith in
        let tail : IsPrefix (qualified rs last) (drop len bytes) = subst (λ (n : ℕ). IsPrefix (qualified rs last) (drop n bytes)) len_is (after_dot r (qualified rs last) bytes front) in
        omega (arith, bound rs last a.1 s m tail, ap length (qualified_cons r rs last), length-append r (46 ∷ qualified rs last))

-- ---- the scan over the qualifiers

pub record IsNameScan (bytes : List ℕ) (start : ℕ) : Type 0 where
  pub within : start ≤ length bytes
  pub qualifiers : List (List ℕ)
  pub capitals : AllByRecursion IsCapitalName qualifiers
  pub front : take start bytes ≡ flat_map dotted qualifiers
  pub follows : StartsName (drop start bytes)
  pub bound : (k : ℕ) → NameBound k (drop start bytes) → NameBound (start + k) bytes

capitals_push : (qs : List (List ℕ)) (q : List ℕ) → AllByRecursion IsCapitalName qs → IsCapitalName q → AllByRecursion IsCapitalName (qs ++ q ∷ [])
capitals_push [] q a c = (c, tt)
capitals_push (r ∷ qs) q a c = (a.0, capitals_push qs q a.1 c)

dotted_push : (qs : List (List ℕ)) (q : List ℕ) → flat_map dotted (qs ++ q ∷ []) ≡ flat_map dotted qs ++ dotted q
dotted_push [] q = append-nil (dotted q)
dotted_push (r ∷ qs) q = ap (λ (t : List ℕ). dotted r ++ t) (dotted_push qs q) ∙ sym (append_assoc (dotted r) (flat_map dotted qs) (dotted q))

pub take_on : (m n : ℕ) (bytes : List ℕ) → take (m + n) bytes ≡ take m bytes ++ take n (drop m bytes)
take_on zero n bytes = ap (λ (k : ℕ). take k bytes) (zero-add n)
take_on (suc m) n [] = rw suc-add (sym (take_all n [] (omega arith)))
take_on (suc m) n (b ∷ bs) = rw suc-add (ap (λ (t : List ℕ). b ∷ t) (take_on m n bs))

pub scan_on : (bytes : List ℕ) (start len : ℕ) → IsNameScan bytes start → IsQualifierOf len (drop start bytes) → len < length (drop start bytes) → IsNameScan bytes (start + len)
scan_on bytes start len s q lt = record {
  within = omega (arith, length-drop start bytes);
  qualifiers = s.qualifiers ++ q.name ∷ [];
  capitals = capitals_push s.qualifiers q.name s.capitals q.capital;
  front = take_on start len bytes ∙ ap (λ (t : List ℕ). t ++ take len (drop start bytes)) s.front ∙ ap (λ (t : List ℕ). flat_map dotted s.qualifiers ++ t) q.front ∙ sym (dotted_push s.qualifiers q.name);
  follows = subst (λ (t : List ℕ). StartsName t) (drop-drop len start bytes) q.follows;
  bound = λ k b.
      let here : NameBound k (drop len (drop start bytes)) = subst (λ (t : List ℕ). NameBound k t) (sym (drop-drop len start bytes)) b in
      subst (λ (n : ℕ). NameBound n bytes) (sym (add_assoc start len k)) (s.bound (len + k) (bound_past (drop start bytes) len k q (omega arith) here));
}

-- ---- the end of the scan

abbrev is_nonempty : List (List ℕ) → Bool
is_nonempty [] = false
is_nonempty (q ∷ qs) = true

starts_class : (c : ByteClass) → is_name_class c ≡ true → (is_capital_class c ≡ true) × (c ≡ Capital) ⊎ (is_capital_class c ≡ false) × (c ≡ Small)
starts_class Small e = inr (refl, refl)
starts_class Capital e = inl (refl, refl)
starts_class White e = absurd cc
starts_class Digit e = absurd cc
starts_class Symbol e = absurd cc
starts_class Special e = absurd cc
starts_class Quote e = absurd cc
starts_class DoubleQuote e = absurd cc
starts_class Other e = absurd cc

has_capital : (qs : List (List ℕ)) (last : List ℕ) (reserved : Bool) → AllByRecursion IsCapitalName qs → IsNameFrom Capital last → HasShape (name_shape (is_nonempty qs) true reserved) (qualified qs last)
has_capital [] last reserved a n = n
has_capital (q ∷ qs) last reserved a n = (q ∷ qs, last, omega arith, a, n, refl)

has_small : (qs : List (List ℕ)) (last : List ℕ) (reserved : Bool) → is_reserved last ≡ reserved → AllByRecursion IsCapitalName qs → IsNameFrom Small last → HasShape (name_shape (is_nonempty qs) false reserved) (qualified qs last)
has_small [] last true e a n = (n, e)
has_small [] last false e a n = (n, e)
has_small (q ∷ qs) last true e a n = inr (inr (inl (q ∷ qs, last, omega arith, a, (n, e), refl)))
has_small (q ∷ qs) last false e a n = (q ∷ qs, last, omega arith, a, (n, e), refl)

starts_prefix : (t bytes : List ℕ) (x : ℕ) (xs : List ℕ) → t ≡ x ∷ xs → IsPrefix t bytes → StartsName bytes → is_name_class (class_of x) ≡ true
starts_prefix t [] x xs e p s = absurd s
starts_prefix [] (b ∷ bs) x xs e p s = absurd cc
starts_prefix (y ∷ ys) (b ∷ bs) x xs e p s = let f : x ≡ y = cc in ap begins_name (f ∙ p.0) ∙ s

small_starts : (t : List ℕ) → IsNameFrom Small t → StartsName t
small_starts [] n = n
small_starts (b ∷ bs) n = ap is_name_class n.0

capital_starts : (t : List ℕ) → IsNameFrom Capital t → StartsName t
capital_starts [] n = n
capital_starts (b ∷ bs) n = ap is_name_class n.0

-- every text with a shape that begins where a name does is a name
pub name_candidate : (k : ℕ) (bytes : List ℕ) (o : Shape) (t : List ℕ) → StartsName bytes → NameBound k bytes → HasShape o t → Begins t bytes → length t ≤ k
name_candidate k bytes o [] s bound h b = omega arith
name_candidate k bytes o (x ∷ xs) s bound h b =
    let p = prefix_from (x ∷ xs) bytes b in
    let f = first o x xs h in
    elim (starts_class (class_of x) (starts_prefix (x ∷ xs) bytes x xs refl p s)) [
      | inl capital ↦
          let form : CapitalForm o (x ∷ xs) = subst (λ (c : ByteClass). FromFirst c o (x ∷ xs)) capital.1 f in
          let p' : IsPrefix (qualified form.qualifiers form.last) bytes = subst (λ (u : List ℕ). IsPrefix u bytes) form.text_is p in
          let starts : StartsName form.last = elim form.part [ inl c ↦ capital_starts form.last c.0 | inr c ↦ small_starts form.last c.0 ] in
          omega (arith, ap length form.text_is, bound form.qualifiers form.last form.capitals starts (last_bytes form.qualifiers form.last o form.part) p')
      | inr small ↦
          let form : FromFirst Small o (x ∷ xs) = subst (λ (c : ByteClass). FromFirst c o (x ∷ xs)) small.1 f in
          bound [] (x ∷ xs) tt (small_starts (x ∷ xs) form.1) (name_bytes Small (x ∷ xs) refl form.1) p
    ]

starts_whole : (bytes : List ℕ) (start : ℕ) → IsNameScan bytes start → StartsName bytes
starts_whole bytes start s =
    let whole : qualified s.qualifiers (drop start bytes) ≡ bytes = ap (λ (t : List ℕ). t ++ drop start bytes) (sym s.front) ∙ take-append-drop start bytes in
    subst (λ (t : List ℕ). StartsName t) whole (starts_qualified s.qualifiers (drop start bytes) s.capitals s.follows)

qualified_bool : (qs : List (List ℕ)) (start : ℕ) → length (flat_map dotted qs) ≡ start → ltb 0 start ≡ is_nonempty qs
qualified_bool [] start e = rw (← e) refl
qualified_bool ([] ∷ qs) start e = le-leb 1 start (omega arith)
qualified_bool ((b ∷ bs) ∷ qs) start e = le-leb 1 start (omega arith)

-- where the scan ends, the longest text is a name, or malformed
scan_end : (bytes : List ℕ) (start len : ℕ) (s : Shape) → IsNameScan bytes start → NoQualifier (drop start bytes) → len ≡ prefix_len is_name_byte (drop start bytes)
    → s ≡ name_shape (ltb 0 start) (is_capital (get_or (drop start bytes) 0 0)) (is_reserved (take len (drop start bytes))) → IsLongest s (take (start + len) bytes) bytes
scan_end bytes start len s scan none len_is s_is =
    let tail : List ℕ = drop start bytes in
    let last : List ℕ = take len tail in
    let text : take (start + len) bytes ≡ qualified scan.qualifiers last = take_on start len bytes ∙ ap (λ (t : List ℕ). t ++ last) scan.front in
    let within : len ≤ length tail = omega (arith, len_is, run_le is_name_byte tail) in
    let size : length (take (start + len) bytes) ≡ start + len = length-take-le (start + len) bytes (omega (arith, within, length-drop start bytes, scan.within)) in
    let qualifiers_bool : ltb 0 start ≡ is_nonempty scan.qualifiers = qualified_bool scan.qualifiers start (ap length (sym scan.front) ∙ length-take-le start bytes scan.within) in
    let bound : NameBound (start + len) bytes = scan.bound len (subst (λ (k : ℕ). NameBound k tail) (sym len_is) (bound_at_last tail none)) in
    let has : HasShape s (qualified scan.qualifiers last) =
    elim (starts_class (class_of (get_or tail 0 0)) (head_starts tail scan.follows)) [
      | inl capital ↦
          let name : IsNameFrom Capital last = subst (λ (k : ℕ). IsNameFrom Capital (take k tail)) (sym len_is) (name_at_front Capital tail scan.follows capital.1) in
          let shape : s ≡ name_shape (is_nonempty scan.qualifiers) true (is_reserved last) = s_is ∙ ap (λ (b : Bool). name_shape b (is_capital (get_or tail 0 0)) (is_reserved last)) qualifiers_bool ∙ ap (λ (b : Bool). name_shape (is_nonempty scan.qualifiers) b (is_reserved last)) capital.0 in
          subst (λ (x : Shape). HasShape x (qualified scan.qualifiers last)) (sym shape) (has_capital scan.qualifiers last (is_reserved last) scan.capitals name)
      | inr small ↦
          let name : IsNameFrom Small last = subst (λ (k : ℕ). IsNameFrom Small (take k tail)) (sym len_is) (name_at_front Small tail scan.follows small.1) in
          let shape : s ≡ name_shape (is_nonempty scan.qualifiers) false (is_reserved last) = s_is ∙ ap (λ (b : Bool). name_shape b (is_capital (get_or tail 0 0)) (is_reserved last)) qualifiers_bool ∙ ap (λ (b : Bool). name_shape (is_nonempty scan.qualifiers) b (is_reserved last)) small.0 in
          subst (λ (x : Shape). HasShape x (qualified scan.qualifiers last)) (sym shape) (has_small scan.qualifiers last (is_reserved last) refl scan.capitals name)
    ] in
    record {
      has = subst (λ (t : List ℕ). HasShape s t) (sym text) has;
      begins = begins_take (start + len) bytes;
      longest = λ o t h b. omega (arith, size, name_candidate (start + len) bytes o t (starts_whole bytes start scan) bound h b);
    }

-- ---- what the code knows where the scan ends

pub record IsNameEnd (bytes : List ℕ) (start len : ℕ) : Type 0 where
  pub scan : IsNameScan bytes start
  pub none : NoQualifier (drop start bytes)
  pub run : len ≡ prefix_len is_name_byte (drop start bytes)

pub name_end : (bytes tail : List ℕ) (start len : ℕ) → tail ≡ drop start bytes → IsNameScan bytes start → NoQualifier tail → len ≡ prefix_len is_name_byte (drop start bytes) → IsNameEnd bytes start len
name_end bytes tail start len e s none run = record { scan = s; none = subst (λ (t : List ℕ). NoQualifier t) e none; run = run }

pub end_within : (bytes : List ℕ) (start len : ℕ) → IsNameEnd bytes start len → start + len ≤ length bytes
end_within bytes start len n = omega (arith, n.run, run_le is_name_byte (drop start bytes), length-drop start bytes, n.scan.within)

-- the shape of the name, by three tests
end_shape : (bytes : List ℕ) (start len : ℕ) (many capital reserved : Bool) → IsNameEnd bytes start len → ltb 0 start ≡ many → is_capital (get_or (drop start bytes) 0 0) ≡ capital → is_reserved (take len (drop start bytes)) ≡ reserved
    → IsLongest (name_shape many capital reserved) (take (start + len) bytes) bytes
end_shape bytes start len many capital reserved n m c r =
    let head : ℕ = get_or (drop start bytes) 0 0 in
    let text : List ℕ = take len (drop start bytes) in
    scan_end bytes start len (name_shape many capital reserved) n.scan n.none n.run
    (sym (ap (λ (b : Bool). name_shape b (is_capital head) (is_reserved text)) m ∙ ap (λ (b : Bool). name_shape many b (is_reserved text)) c ∙ ap (λ (b : Bool). name_shape many capital b) r))

pub starts_capital : (bytes : List ℕ) → StartsWith Capital bytes → StartsName bytes
starts_capital [] s = s
starts_capital (b ∷ bs) s = ap is_name_class s

pub starts_small : (bytes : List ℕ) → StartsWith Small bytes → StartsName bytes
starts_small [] s = s
starts_small (b ∷ bs) s = ap is_name_class s

pub alone : (bytes : List ℕ) (start len : ℕ) → IsNameEnd bytes start len → is_capital (get_or (drop start bytes) 0 0) ≡ true → start ≡ 0 → IsLongest (lexeme ConId) (take (start + len) bytes) bytes
alone bytes start len n c e = end_shape bytes start len false true (is_reserved (take len (drop start bytes))) n (ap (ltb 0) e) c refl

pub qualified_capital : (bytes : List ℕ) (start len : ℕ) → IsNameEnd bytes start len → is_capital (get_or (drop start bytes) 0 0) ≡ true → start ≢ 0 → IsLongest (lexeme QConId) (take (start + len) bytes) bytes
qualified_capital bytes start len n c e = end_shape bytes start len true true (is_reserved (take len (drop start bytes))) n (le-leb 1 start (omega arith)) c refl

-- a last part that begins with no capital isn't the first part
behind_capital : (bytes : List ℕ) (start : ℕ) → StartsWith Capital bytes → is_capital (get_or (drop start bytes) 0 0) ≡ false → ltb 0 start ≡ true
behind_capital [] start s c = absurd s
behind_capital (b ∷ bs) zero s c = absurd (false≢true (sym c ∙ ap is_capital_class s))
behind_capital (b ∷ bs) (suc n) s c = le-leb 1 (suc n) (omega arith)

pub qualified_word : (bytes : List ℕ) (start len : ℕ) → StartsWith Capital bytes → IsNameEnd bytes start len → is_capital (get_or (drop start bytes) 0 0) ≡ false → is_reserved (take len (drop start bytes)) ≡ true → IsLongest malformed (take (start + len) bytes) bytes
qualified_word bytes start len s n c r = end_shape bytes start len true false true n (behind_capital bytes start s c) c r

pub qualified_variable : (bytes : List ℕ) (start len : ℕ) → StartsWith Capital bytes → IsNameEnd bytes start len → is_capital (get_or (drop start bytes) 0 0) ≡ false → is_reserved (take len (drop start bytes)) ≡ false → IsLongest (lexeme QVarId) (take (start + len) bytes) bytes
qualified_variable bytes start len s n c r = end_shape bytes start len true false false n (behind_capital bytes start s c) c r

-- ---- names with a small first letter

none_at_small : (bytes : List ℕ) → StartsWith Small bytes → NoQualifier bytes
none_at_small [] s = absurd s
none_at_small (b ∷ bs) s = go
  where
    go : NoQualifier (b ∷ bs)
    go [] rest c starts e = c
    go (x ∷ xs) rest c starts e =
        let heads : x ≡ b = cc in
        let classes : Capital ≡ Small = sym c.0 ∙ ap class_of heads ∙ s in
        cc

scan_start : (bytes : List ℕ) → StartsName bytes → IsNameScan bytes 0
scan_start bytes s = record {
  within = omega arith;
  qualifiers = [];
  capitals = tt;
  front = refl;
  follows = s;
  bound = λ k b. subst (λ (n : ℕ). NameBound n bytes) (sym (zero-add k)) b;
}

small_not_capital : (bytes : List ℕ) → StartsWith Small bytes → is_capital (get_or bytes 0 0) ≡ false
small_not_capital [] s = absurd s
small_not_capital (b ∷ bs) s = ap is_capital_class s

small_longest : (bytes : List ℕ) (len : ℕ) (reserved : Bool) → StartsWith Small bytes → len ≡ prefix_len is_name_byte bytes → is_reserved (take len bytes) ≡ reserved → IsLongest (name_shape false false reserved) (take len bytes) bytes
small_longest bytes len reserved s run r =
    let n : IsNameEnd bytes 0 len = record { scan = scan_start bytes (starts_small bytes s); none = none_at_small bytes s; run = run } in
    subst (λ (k : ℕ). IsLongest (name_shape false false reserved) (take k bytes) bytes) (zero-add len) (end_shape bytes 0 len false false reserved n refl (small_not_capital bytes s) r)

pub word_longest : (bytes : List ℕ) (len : ℕ) → StartsWith Small bytes → len ≡ prefix_len is_name_byte bytes → is_reserved (take len bytes) ≡ true → IsLongest (lexeme Word) (take len bytes) bytes
word_longest bytes len s run r = small_longest bytes len true s run r

pub variable_longest : (bytes : List ℕ) (len : ℕ) → StartsWith Small bytes → len ≡ prefix_len is_name_byte bytes → is_reserved (take len bytes) ≡ false → IsLongest (lexeme VarId) (take len bytes) bytes
variable_longest bytes len s run r = small_longest bytes len false s run r

pub no_open_at_name : (bytes : List ℕ) → StartsName bytes → OpenCommentBegins bytes → ⊥
no_open_at_name [] s o = s
no_open_at_name (b ∷ bs) s o = no_open_comment b bs (λ e. false≢true (ap is_name_class (sym e) ∙ s)) o
