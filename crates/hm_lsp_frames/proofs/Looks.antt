-- What the bytes that are held begin with.
use Rattle.std.proofs.Common.{◌≡◌, ℕ, ◌+◌, ◌-◌, ◌<◌, ◌≤◌, true, false, List, ◌++◌, Option, Some, None, length, take, drop, sym, ap, ◌∙◌, arith}
use Rattle.std.proofs.Common.{append_assoc}
use Rattle.std.proofs.lemmas.Bool.{cond-false, cond-true, eq-eqb, eqb-true, false_from_ne_true, le-leb, lt-leb}
use Rattle.std.proofs.lemmas.List.{drop-append-le, drop-drop, drop_all, length-append, length-drop, length-take-le, take-append-drop, take-append-le, take-take, take_all}
use Rattle.hm_lsp_frames.specs.Frames.{Item, body, too_long, malformed, end_of, first_frame, is_inside, kept, last_length, most_body, most_header, most_read, passed_header, passed_long, with_end, with_length}
use Rattle.hm_lsp_frames.specs.Headers.{length_of}
use Rattle.hm_lsp_frames.specs.Looking.{IsLook, IsLookAfter, IsMalformedLook}
use Rattle.hm_lsp_frames.specs.Pending.{IsPassing}
use Rattle.hm_lsp_frames.specs.declared.looking.Start.{Start}
use Rattle.hm_lsp_frames.specs.declared.looking.Start.TheVariants.{Nothing, Malformed, Body, TooLong}
use Rattle.hm_lsp_frames.proofs.Ends.{end_within, same_end}

malformed_look : (s : List ℕ) (count : ℕ) → first_frame s ≡ Some (malformed, drop count s) → 0 < count → count ≤ length s → IsMalformedLook s count
malformed_look s count e some within = record { frame = e; within = within; some = some }

pub look_nothing : (s : List ℕ) → end_of s ≡ None → length s < most_read → first_frame s ≡ None
look_nothing s is short = ap (λ (o : Option ℕ). with_end o s) is ∙ cond-false _ _ _ (lt-leb most_read (length s) short)

pub look_long : (s : List ℕ) (count : ℕ) → end_of s ≡ None → most_read ≤ length s
    → count ≡ passed_long (last_length (take most_header s)) → 0 < count → count ≤ most_header → IsMalformedLook s count
look_long s count is long counted some within =
    malformed_look s count
    (ap (λ (o : Option ℕ). with_end o s) is
    ∙ cond-true _ (Some (malformed, drop (passed_long (last_length (take most_header s))) s)) None (le-leb most_read (length s) long)
    ∙ ap (λ (n : ℕ). Some (malformed, drop n s)) (sym counted))
    some (omega (arith, within, long))

pub look_malformed : (s : List ℕ) (k count : ℕ) → end_of s ≡ Some k → None ≡ length_of (take k s)
    → count ≡ passed_header (take k s) (last_length (take k s)) → 0 < count → count ≤ length (take k s) + 4 → IsMalformedLook s count
look_malformed s k count end none counted some within =
    let fits = end_within s k end in
    let size = length-take-le k s (omega (arith, fits.1)) in
    malformed_look s count
    (ap (λ (o : Option ℕ). with_end o s) end ∙ ap (λ (l : Option ℕ). with_length l (take k s) s) (sym none) ∙ ap (λ (n : ℕ). Some (malformed, drop n s)) (sym counted))
    some (omega (arith, within, size, fits.1))

with_size : (s : List ℕ) (k n : ℕ) → end_of s ≡ Some k → Some n ≡ length_of (take k s) → first_frame s ≡ with_length (Some n) (take k s) s
with_size s k n end is = ap (λ (o : Option ℕ). with_end o s) end ∙ ap (λ (l : Option ℕ). with_length l (take k s) s) (sym is)

-- the first frame of a stream with a header that gives this length, if all bytes are there
pub sized_frame : (s b after : List ℕ) (k n : ℕ) → end_of s ≡ Some k → Some n ≡ length_of (take k s) → drop (k + 4) s ≡ b ++ after → length b ≡ n → first_frame s ≡ Some (kept b, after)
sized_frame s b after k n end is rest size =
    let fits = end_within s k end in
    let header = length-take-le k s (omega (arith, fits.1)) in
    let here : drop (length (take k s) + 4) s ≡ b ++ after = ap (λ (h : ℕ). drop (h + 4) s) header ∙ rest in
    let more = length-append b after in
    let enough : n ≤ length (drop (length (take k s) + 4) s) = omega (arith, more, size, ap length here) in
    let front : take n (drop (length (take k s) + 4) s) ≡ b = ap (take n) here ∙ take-append-le n b after (omega (arith, size)) ∙ take_all n b (omega (arith, size)) in
    let back : drop n (drop (length (take k s) + 4) s) ≡ after =
    ap (drop n) here ∙ drop-append-le n b after (omega (arith, size)) ∙ ap (λ (l : List ℕ). l ++ after) (drop_all n b (omega (arith, size))) in
    with_size s k n end is
    ∙ cond-true _ (Some (kept (take n (drop (length (take k s) + 4) s)), drop n (drop (length (take k s) + 4) s))) None (le-leb _ _ enough)
    ∙ ap (λ (l : List ℕ). Some (kept l, drop n (drop (length (take k s) + 4) s))) front
    ∙ ap (λ (l : List ℕ). Some (kept b, l)) back

passing_frame : (s : List ℕ) (k n count left : ℕ) → end_of s ≡ Some k → Some n ≡ length_of (take k s) → most_body < n → k + 4 ≤ count → count ≤ length s → count + left ≡ k + 4 + n
    → (missing after : List ℕ) → length missing ≡ left → first_frame (take count s ++ (missing ++ after)) ≡ Some (too_long, after)
passing_frame s k n count left end is long low high sum missing after size =
    let front : List ℕ = take count s in
    let u : List ℕ = front ++ (missing ++ after) in
    let here = length-take-le count s high in
    let same : take (k + 4) s ≡ take (k + 4) u = sym (take-append-le (k + 4) front (missing ++ after) (omega (arith, here, low)) ∙ take-take (k + 4) count s low) in
    let header : take k u ≡ take k s = take-append-le k front (missing ++ after) (omega (arith, here, low)) ∙ take-take k count s (omega (arith, low)) in
    let again : end_of u ≡ Some k = same_end s u k end same in
    let b : List ℕ = drop (k + 4) front ++ missing in
    let rest : drop (k + 4) u ≡ b ++ after = drop-append-le (k + 4) front (missing ++ after) (omega (arith, here, low)) ∙ sym (append_assoc (drop (k + 4) front) missing after) in
    let part = length-drop (k + 4) front in
    let joined = length-append (drop (k + 4) front) missing in
    let whole : length b ≡ n = omega (arith, joined, part, here, size, sum, low) in
    let longer : kept b ≡ too_long = cond-false _ _ _ (lt-leb (length b) most_body (omega (arith, whole, long))) in
    sized_frame u b after k n again (is ∙ ap length_of (sym header)) rest whole ∙ ap (λ (i : Item). Some (i, after)) longer

pub look_sized : (s : List ℕ) (k n : ℕ) (r : Start) → end_of s ≡ Some k → Some n ≡ length_of (take k s)
    → IsLookAfter s (k + 4) n r → IsLook s r
look_sized s k n Nothing end size (small, short) =
    let fits = end_within s k end in
    let header = length-take-le k s (omega (arith, fits.1)) in
    let rest = length-drop (length (take k s) + 4) s in
    with_size s k n end size ∙ cond-false _ _ _ (lt-leb n (length (drop (length (take k s) + 4) s)) (omega (arith, rest, header, short, fits.1)))
look_sized s k n (Malformed count) end size h = absurd h
look_sized s k n (Body from to) end size (small, start, stop, high) =
    let all : List ℕ = drop from s in
    let b : List ℕ = take (to - from) all in
    let part = length-drop from s in
    let len : length b ≡ n = length-take-le (to - from) all (omega (arith, part, start, stop, high)) ∙ (omega (arith, start, stop)) in
    let after : drop (to - from) all ≡ drop to s = drop-drop (to - from) from s ∙ ap (λ (i : ℕ). drop i s) (omega (arith, start, stop)) in
    let rest : drop (k + 4) s ≡ b ++ drop to s =
    ap (λ (i : ℕ). drop i s) (sym start) ∙ sym (take-append-drop (to - from) all) ∙ ap (λ (l : List ℕ). b ++ l) after in
    let short : kept b ≡ body b = cond-true _ _ _ (le-leb (length b) most_body (omega (arith, len, small))) in
    record {
      frame = sized_frame s b (drop to s) k n end size rest len ∙ ap (λ (i : Item). Some (i, drop to s)) short;
      ordered = omega (arith, start, stop);
      within = high;
      some = omega (arith, start);
    }
look_sized s k n (TooLong count left) end size (long, counted, missing) =
    let fits = end_within s k end in
    let high : count ≤ length s = omega (arith, counted, fits.1) in
    let passing : IsPassing left (drop count s) s = record {
      passed = take count s;
      begun = let size = length-take-le count s high in omega (arith, size, counted);
      whole = sym (take-append-drop count s);
      frame = passing_frame s k n count left end size long (omega (arith, counted)) high (omega (arith, counted, missing, fits.1));
      unheld = λ some. drop_all count s (omega (arith, counted, missing, some));
    } in
    record { passing = passing; within = high; some = omega (arith, counted) }

pub passed_inside : (h : List ℕ) (k : ℕ) → Some k ≡ last_length h → is_inside h k ≡ true → k ≡ passed_header h (last_length h)
passed_inside h k last inside = sym (ap (passed_header h) (sym last) ∙ cond-true _ _ _ inside)

pub passed_whole : (h : List ℕ) (k : ℕ) → Some k ≡ last_length h → is_inside h k ≡ false → length h + 4 ≡ passed_header h (last_length h)
passed_whole h k last inside = sym (ap (passed_header h) (sym last) ∙ cond-false _ _ _ inside)

pub passed_unnamed : (h : List ℕ) → None ≡ last_length h → length h + 4 ≡ passed_header h (last_length h)
passed_unnamed h last = ap (passed_header h) last

pub long_inside : (h : List ℕ) (k : ℕ) → Some k ≡ last_length h → 0 < k → k ≡ passed_long (last_length h)
long_inside h k last some = sym (ap passed_long (sym last) ∙ cond-false _ _ _ (false_from_ne_true _ (λ t. let same = eqb-true k 0 t in let never : ⊥ = omega (arith, same, some) in never)))

pub long_start : (h : List ℕ) (k : ℕ) → Some k ≡ last_length h → k ≤ 0 → most_header - 14 ≡ passed_long (last_length h)
long_start h k last none = sym (ap passed_long (sym last) ∙ cond-true _ _ _ (eq-eqb k 0 (omega arith)))

pub long_unnamed : (h : List ℕ) → None ≡ last_length h → most_header - 14 ≡ passed_long (last_length h)
long_unnamed h last = ap passed_long last
