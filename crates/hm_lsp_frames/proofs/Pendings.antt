-- The bytes that were read and aren't taken yet.
use Rattle.std.proofs.Common.{◌≡◌, ℕ, ◌+◌, ◌-◌, ◌<◌, ◌≤◌, min, List, [], ◌∷◌, ◌++◌, Option, Some, None, flat_map, get_or, length, map, take, drop, replicate, refl, sym, ap, subst, ◌∙◌, arith, ⊎_elim}
use Rattle.std.proofs.Common.{append_assoc}
use Rattle.std.proofs.lemmas.Bool.{cases_lt}
use Rattle.std.proofs.lemmas.List.{append-nil, flat_map_more, take_more, drop-drop, map-append, drop_all, length-append, length-drop, length-replicate, length-take, take-append-drop}
use Rattle.hm_lsp_frames.specs.Frames.{Item, Reads, body, done, malformed, more, too_long, first_frame}
use Rattle.hm_lsp_frames.specs.Looking.{IsBodyLook, IsLongLook, IsMalformedLook}
use Rattle.hm_lsp_frames.specs.Pending.{IsHeldBy, IsPassing, IsPending, IsTaken, TakesAll, item_of}
use Rattle.hm_lsp_frames.specs.declared.frames.Frame.{Frame}
use Rattle.hm_lsp_frames.specs.declared.frames.Frames.{Frames}
use Rattle.memchr.proofs.Computing.{computing}
use Rattle.hm_lsp_frames.proofs.Parts.{frame_again, same_rest}
use Rattle.hm_lsp_frames.proofs.Readings.{in_parts}

pub add_held : (held stream piece new : List ℕ) → stream ≡ held → new ≡ held ++ piece → stream ++ piece ≡ new
add_held held stream piece new is longer = ap (λ (l : List ℕ). l ++ piece) is ∙ sym longer

add_ended : (held stream piece new : List ℕ) → IsPassing 0 held stream → new ≡ held ++ piece → IsPassing 0 new (stream ++ piece)
add_ended held stream piece new h longer =
    let passed = h.passed in
    record {
      passed = passed;
      begun = h.begun;
      whole = ap (λ (l : List ℕ). l ++ piece) h.whole ∙ append_assoc passed held piece ∙ ap (λ (l : List ℕ). passed ++ l) (sym longer);
      frame = h.frame;
      unheld = λ some. absurd (let never : ⊥ = omega (arith, some) in never);
    }

add_missing : (left part : ℕ) (held stream piece new : List ℕ) → 0 < left → IsPassing left held stream → part ≡ min left (length piece) → new ≡ held ++ drop part piece
    → IsPassing (left - part) new (stream ++ piece)
add_missing left part held stream piece new some h is longer =
    let passed = h.passed in
    let front : List ℕ = take part piece in
    let none : held ≡ [] = h.unheld some in
    let rest : new ≡ drop part piece = longer ∙ ap (λ (l : List ℕ). l ++ drop part piece) none in
    let size = length-take part piece in
    record {
      passed = passed ++ front;
      begun = let both = length-append passed front in let begun = h.begun in omega (arith, both, begun);
      whole =
          ap (λ (l : List ℕ). l ++ piece) (h.whole ∙ ap (λ (l : List ℕ). passed ++ l) none ∙ append-nil passed)
          ∙ ap (λ (l : List ℕ). passed ++ l) (sym (take-append-drop part piece) ∙ ap (λ (l : List ℕ). front ++ l) (sym rest))
          ∙ sym (append_assoc passed front new);
      frame = λ missing after len.
          let joined = length-append front missing in
          ap first_frame (append_assoc passed front (missing ++ after) ∙ ap (λ (l : List ℕ). passed ++ l) (sym (append_assoc front missing after)))
          ∙ h.frame (front ++ missing) after (omega (arith, joined, size, len, is));
      unheld = λ more_left. rest ∙ drop_all part piece (omega (arith, is, more_left));
    }

pub add_passing : (left part : ℕ) (held stream piece new : List ℕ) → IsPassing left held stream → part ≡ min left (length piece) → new ≡ held ++ drop part piece
    → IsPassing (left - part) new (stream ++ piece)
add_passing left part held stream piece new h is longer =
    ⊎_elim (λ (some : 0 < left). add_missing left part held stream piece new some h is longer)
    (λ (none : left ≤ 0).
    let zero : left ≡ 0 = omega arith in
    let still : left - part ≡ 0 = omega arith in
    let first : part ≡ 0 = omega (arith, is) in
    let ended : IsPassing 0 held stream = subst (λ (n : ℕ). IsPassing n held stream) zero h in
    subst (λ (n : ℕ). IsPassing n new (stream ++ piece)) (sym still) (add_ended held stream piece new ended (longer ∙ ap (λ (n : ℕ). held ++ drop n piece) first)))
    (cases_lt 0 left)

-- no frame is whole while bytes of a body are missing
passing_step : (left : ℕ) (held stream : List ℕ) → 0 < left → IsPassing left held stream → (r : Option (Item × List ℕ)) → first_frame stream ≡ r → first_frame stream ≡ None
passing_step left held stream some h None is = is
passing_step left held stream some h (Some (i, r)) is =
    let missing : List ℕ = replicate left 0 in
    let size : length missing ≡ left = length-replicate left 0 in
    let long = frame_again stream (missing ++ []) i r is in
    let whole : stream ++ (missing ++ []) ≡ h.passed ++ (missing ++ []) = ap (λ (l : List ℕ). l ++ (missing ++ [])) (h.whole ∙ ap (λ (l : List ℕ). h.passed ++ l) (h.unheld some) ∙ append-nil h.passed) in
    let same = same_rest i too_long (r ++ (missing ++ [])) [] (sym long ∙ ap first_frame whole ∙ h.frame missing [] size) in
    let joined = length-append r (missing ++ []) in
    let bare = length-append missing [] in
    absurd (let never : ⊥ = omega (arith, joined, bare, size, some, ap length same) in never)

pub passing_none : (left : ℕ) (held stream : List ℕ) → 0 < left → IsPassing left held stream → first_frame stream ≡ None
passing_none left held stream some h = passing_step left held stream some h (first_frame stream) refl

pub passing_ended : (left : ℕ) (held stream : List ℕ) → left ≤ 0 → IsPassing left held stream → first_frame stream ≡ Some (too_long, held)
passing_ended left held stream none h =
    let zero : left ≡ 0 = omega arith in
    ap first_frame h.whole ∙ h.frame [] held (sym zero)

-- the bytes after more of the bytes
pub held_after : (start count : ℕ) (bytes : List ℕ) → drop count (drop start bytes) ≡ drop (start + count) bytes
held_after start count bytes = drop-drop count start bytes

pub fewer_held : (start count : ℕ) (bytes : List ℕ) → 0 < count → count ≤ length (drop start bytes) → length (drop (start + count) bytes) < length (drop start bytes)
fewer_held start count bytes some within =
    let size = length-drop (start + count) bytes in
    let old = length-drop start bytes in
    omega (arith, size, old, some, within)

pub held_by_none : (passing : Option ℕ) (held : List ℕ) → passing ≡ None → IsHeldBy passing held held
held_by_none passing held none = subst (λ (o : Option ℕ). IsHeldBy o held held) (sym none) refl

pub malformed_taken : (held bytes : List ℕ) (start count : ℕ) (passing : Option ℕ) → held ≡ drop start bytes → IsMalformedLook held count → passing ≡ None
    → (x : List ℕ) × (first_frame (drop start bytes) ≡ Some (malformed, x)) × IsHeldBy passing (drop (start + count) bytes) x
malformed_taken held bytes start count passing is look none =
    let rest : drop count held ≡ drop (start + count) bytes = ap (drop count) is ∙ held_after start count bytes in
    (drop (start + count) bytes, ap first_frame (sym is) ∙ look.frame ∙ ap (λ (r : List ℕ). Some (malformed, r)) rest, held_by_none passing (drop (start + count) bytes) none)

pub body_taken : (held bytes items : List ℕ) (start from to : ℕ) (passing : Option ℕ) → held ≡ drop start bytes → IsBodyLook held from to → items ≡ take (to - from) (drop from held) → passing ≡ None
    → (x : List ℕ) × (first_frame (drop start bytes) ≡ Some (body items, x)) × IsHeldBy passing (drop (start + to) bytes) x
body_taken held bytes items start from to passing is look kept none =
    let rest : drop to held ≡ drop (start + to) bytes = ap (drop to) is ∙ held_after start to bytes in (
      drop (start + to) bytes,
      ap first_frame (sym is) ∙ look.frame ∙ ap (λ (b : List ℕ). Some (body b, drop to held)) (sym kept) ∙ ap (λ (r : List ℕ). Some (body items, r)) rest,
      held_by_none passing (drop (start + to) bytes) none,
    )

long_moved : (held bytes : List ℕ) (start count left : ℕ) → held ≡ drop start bytes → IsLongLook held count left → IsPassing left (drop (start + count) bytes) (drop start bytes)
long_moved held bytes start count left is look =
    subst (λ (l : List ℕ). IsPassing left l (drop start bytes)) (held_after start count bytes) (subst (λ (l : List ℕ). IsPassing left (drop count l) l) is look.passing)

pub long_missing : (held bytes : List ℕ) (start count left : ℕ) → held ≡ drop start bytes → IsLongLook held count left → 0 < left
    → IsPassing left (drop (start + count) bytes) (drop start bytes) × (first_frame (drop start bytes) ≡ None)
long_missing held bytes start count left is look some =
    let moved = long_moved held bytes start count left is look in
    (moved, passing_none left (drop (start + count) bytes) (drop start bytes) some moved)

pub long_taken : (held bytes : List ℕ) (start count left : ℕ) (passing : Option ℕ) → held ≡ drop start bytes → IsLongLook held count left → left ≤ 0 → passing ≡ None
    → (x : List ℕ) × (first_frame (drop start bytes) ≡ Some (too_long, x)) × IsHeldBy passing (drop (start + count) bytes) x
long_taken held bytes start count left passing is look zero none = (
  drop (start + count) bytes,
  passing_ended left (drop (start + count) bytes) (drop start bytes) zero (long_moved held bytes start count left is look),
  held_by_none passing (drop (start + count) bytes) none,
)

pub still_missing : (passing : Option ℕ) (left : ℕ) (held stream : List ℕ) → passing ≡ Some left → 0 < left → IsHeldBy passing held stream → IsHeldBy passing held stream × (first_frame stream ≡ None)
still_missing passing left held stream is some h = (h, passing_none left held stream some (subst (λ (o : Option ℕ). IsHeldBy o held stream) is h))

pub now_passed : (passing : Option ℕ) (left : ℕ) (held stream : List ℕ) → passing ≡ Some left → left ≤ 0 → IsHeldBy passing held stream
    → (x : List ℕ) × (first_frame stream ≡ Some (too_long, x)) × (x ≡ held)
now_passed passing left held stream is zero h = (held, passing_ended left held stream zero (subst (λ (o : Option ℕ). IsHeldBy o held stream) is h), refl)

pub added_passing : (passing : Option ℕ) (left part start : ℕ) (held bytes items stream piece : List ℕ) → passing ≡ Some left → start ≡ 0 → drop start bytes ≡ held → items ≡ bytes ++ drop part piece
    → part ≡ min left (length piece) → IsHeldBy passing held stream → IsPassing (left - part) (drop start items) (stream ++ piece)
added_passing passing left part start held bytes items stream piece is zero same longer counted h =
    let passing_now : IsPassing left held stream = subst (λ (o : Option ℕ). IsHeldBy o held stream) is h in
    let whole : bytes ≡ held = ap (λ (n : ℕ). drop n bytes) (sym zero) ∙ same in
    let new : drop start items ≡ held ++ drop part piece = ap (λ (n : ℕ). drop n items) zero ∙ longer ∙ ap (λ (l : List ℕ). l ++ drop part piece) whole in
    add_passing left part held stream piece (drop start items) passing_now counted new

pub not_empty : (passing : Option ℕ) (left : ℕ) (held : List ℕ) → passing ≡ Some left → IsHeldBy passing held [] → ⊥
not_empty passing left held is h =
    let passing_now : IsPassing left held [] = subst (λ (o : Option ℕ). IsHeldBy o held []) is h in
    let begun = passing_now.begun in
    let both = length-append passing_now.passed held in
    let never : ⊥ = omega (arith, begun, both, ap length passing_now.whole) in
    never

-- the frames that were taken so far: what is read of the rest completes a reading
pub record HasTaken (frames : Frames) (stream : List ℕ) (taken all : List Frame) : Type 0 where
  pub new : List Frame
  pub rest : List ℕ
  pub all_are : all ≡ taken ++ new
  pub reads : (items : List Item) (end : List ℕ) → Reads rest items end → Reads stream (map item_of new ++ items) end
  pub pending : IsPending frames rest

pub none_taken : (frames : Frames) (stream : List ℕ) (taken : List Frame) → IsPending frames stream → HasTaken frames stream taken taken
none_taken frames stream taken h = record { new = []; rest = stream; all_are = sym (append-nil taken); reads = λ items end reads. reads; pending = h }

pub one_taken : (before after : Frames) (stream : List ℕ) (taken all more_taken : List Frame) (f : Frame) → HasTaken before stream taken all
    → ((s : List ℕ) → IsPending before s → (x : List ℕ) × (first_frame s ≡ Some (item_of f, x)) × IsPending after x) → more_taken ≡ all ++ (f ∷ []) → HasTaken after stream taken more_taken
one_taken before after stream taken all more_taken f h next longer =
    let step = next h.rest h.pending in
    record {
      new = h.new ++ (f ∷ []);
      rest = step.0;
      all_are = longer ∙ ap (λ (l : List Frame). l ++ (f ∷ [])) h.all_are ∙ append_assoc taken h.new (f ∷ []);
      reads = λ items end reads.
          let whole = h.reads (item_of f ∷ items) end (more step.1 reads) in
          let same : map item_of h.new ++ (item_of f ∷ items) ≡ map item_of (h.new ++ (f ∷ [])) ++ items =
          sym (append_assoc (map item_of h.new) (item_of f ∷ []) items) ∙ ap (λ (l : List Item). l ++ items) (sym (map-append item_of h.new (f ∷ []))) in
          subst (λ (l : List Item). Reads stream l end) same whole;
      pending = step.2;
    }

pub all_taken : (before after : Frames) (stream : List ℕ) (taken all : List Frame) → HasTaken before stream taken all
    → ((s : List ℕ) → IsPending before s → IsPending after s × (first_frame s ≡ None)) → TakesAll after stream taken all
all_taken before after stream taken all h next =
    let last = next h.rest h.pending in
    let whole = h.reads [] h.rest (done last.1) in
    (h.new, h.rest, h.all_are, subst (λ (l : List Item). Reads stream l h.rest) (append-nil (map item_of h.new)) whole, last.0)

pub some_taken : (o : Option Frame) (f : Frame) (before after : Frames) → o ≡ Some f → ((s : List ℕ) → IsPending before s → IsTaken o after s)
    → (s : List ℕ) → IsPending before s → IsTaken (Some f) after s
some_taken o f before after is next = subst (λ (x : Option Frame). (s : List ℕ) → IsPending before s → IsTaken x after s) is next

pub nothing_taken : (o : Option Frame) (before after : Frames) → o ≡ None → ((s : List ℕ) → IsPending before s → IsTaken o after s) → (s : List ℕ) → IsPending before s → IsTaken None after s
nothing_taken o before after is next = subst (λ (x : Option Frame). (s : List ℕ) → IsPending before s → IsTaken x after s) is next

empty_read : Reads [] [] []
unfolding computing
empty_read = done refl

pub none_read : (frames : Frames) (taken : List Frame) → taken ≡ [] → IsPending frames [] → (rest : List ℕ) × Reads [] (map item_of taken) rest × IsPending frames rest
none_read frames taken none pending = ([], subst (λ (l : List Frame). Reads [] (map item_of l) []) (sym none) empty_read, pending)

pub piece_read : {V : Type 0} (f : V → List ℕ) (pieces : List V) (i : ℕ) (d : V) (piece rest : List ℕ) (before all : List Frame) (frames : Frames) → i < length pieces → piece ≡ f (get_or pieces i d)
    → Reads (flat_map f (take i pieces)) (map item_of before) rest → TakesAll frames (rest ++ piece) before all
    → (end : List ℕ) × Reads (flat_map f (take (i + 1) pieces)) (map item_of all) end × IsPending frames end
piece_read f pieces i d piece rest before all frames low is read (new, end, all_are, later, pending) =
    let whole : flat_map f (take (i + 1) pieces) ≡ flat_map f (take i pieces) ++ piece =
    ap (flat_map f) (take_more pieces i d low) ∙ sym (flat_map_more f [] (take i pieces) (get_or pieces i d)) ∙ ap (λ (l : List ℕ). flat_map f (take i pieces) ++ l) (sym is) in
    let items : map item_of before ++ map item_of new ≡ map item_of all = sym (map-append item_of before new) ∙ ap (map item_of) (sym all_are) in
    let both = in_parts (flat_map f (take i pieces)) piece rest end (map item_of before) (map item_of new) read later in
    (end, subst (λ (l : List ℕ). Reads l (map item_of all) end) (sym whole) (subst (λ (l : List Item). Reads (flat_map f (take i pieces) ++ piece) l end) items both), pending)
