-- The tokens of a trial lie in the text that goes on after the source.
use Rattle.std.proofs.Common.{◌≡◌, ℕ, ◌+◌, ◌-◌, ◌≤◌, List, [], ◌∷◌, ◌++◌, length, length-append, length-drop, take, drop, All, sym, ap, subst, ◌∙◌, append_assoc, arith}
use Rattle.std.specs.Prelude.{slice_range, true, Option, Some, None, IfSome, is_some}
use Rattle.std.proofs.lemmas.Bool.{false≢true}
use Rattle.std.specs.Str.{IsUtf8}
use Rattle.std.proofs.lemmas.List.{take-append-le, drop-append-le, drop-drop}
use Rattle.std.proofs.lemmas.List.Elements.{All-append, All-drop, All-push, All-take}
use Rattle.hm_lex.specs.Texts.{LiesIn}
use Rattle.hm_lex.specs.declared.token.Token.{Token}
use Rattle.hm_messages_hints.specs.Marks.{IsMarkIn}
use Rattle.hm_messages_hints.specs.Repairs.{IsPutIn, IsRepair, changed, repaired, unrepaired}
use Rattle.hm_messages_repairs.specs.Trials.{mark_of}
use Rattle.hm_parse_grammar.specs.Grammar.Modules.{Spells}
use Rattle.hm_syntax.specs.declared.ast.Module.{Module}
use Rattle.hm_messages_hints.specs.declared.mark.Mark.{Mark}
use Rattle.hm_messages_hints.specs.declared.mark.Mark.TheVariants.{RightBrace}
use Rattle.hm_messages_hints.specs.declared.change.TokenChange.{TokenChange}
use Rattle.hm_messages_hints.specs.declared.change.TokenChange.TheVariants.{Insert, Replace, Remove}
use Rattle.hm_messages_hints.specs.declared.change.Repair.{Repair}
use Rattle.hm_messages_hints.specs.declared.change.Scope.{Scope}
use Rattle.hm_messages_hints.specs.declared.change.Scope.TheVariants.{Whole, Declaration}

range_more : (source rest : List ℕ) (a b : ℕ) → a ≤ b → b ≤ length source → slice_range (source ++ rest) a b ≡ slice_range source a b
range_more source rest a b ordered within =
    ap (λ (l : List ℕ). take (b - a) l) (drop-append-le a source rest (omega (arith, ordered, within)))
    ∙ take-append-le (b - a) (drop a source) rest (omega (arith, length-drop a source, ordered, within))

-- what is appended after the front of the tokens
pub rest_is : (ts : List Token) (at : ℕ) → drop 1 (drop at ts) ≡ drop (at + 1) ts
rest_is ts at = drop-drop 1 at ts

-- a token of a text lies in a longer one
pub lies_more : (source rest : List ℕ) (t : Token) → LiesIn source t → LiesIn (source ++ rest) t
lies_more source rest t h = record {
  ordered = h.ordered;
  within = omega (arith, h.within, length-append source rest);
  is_text = subst (λ (l : List ℕ). IsUtf8 l) (sym (range_more source rest t.start t.end h.ordered h.within)) h.is_text;
}

pub mark_more : (text rest : List ℕ) (mark : Mark) (t : Token) → IsMarkIn text mark t → IsMarkIn (text ++ rest) mark t
mark_more text rest mark t h = record {
  lies = lies_more text rest t h.lies;
  is = range_more text rest t.start t.end h.lies.ordered h.lies.within ∙ h.is;
  kind_is = h.kind_is;
}

pub all_more : (source rest : List ℕ) (ts : List Token) → All (LiesIn source) ts → All (LiesIn (source ++ rest)) ts
all_more source rest ts h = λ k d below. lies_more source rest _ (h k d below)

changed_lie : (text : List ℕ) (change : TokenChange) (at : ℕ) (mark : Token) (ts : List Token) → All (LiesIn text) ts → LiesIn text mark → All (LiesIn text) (changed change at mark ts)
changed_lie text (Insert m) at mark ts h l = front_and_back text mark (take at ts) (drop at ts) (All-take (LiesIn text) at ts h) (All-drop (LiesIn text) at ts h) l
  where
    front_and_back : (text : List ℕ) (mark : Token) (xs ys : List Token) → All (LiesIn text) xs → All (LiesIn text) ys → LiesIn text mark → All (LiesIn text) (xs ++ (mark ∷ ys))
    front_and_back text mark xs ys h g l = All-append (LiesIn text) xs (mark ∷ ys) h (All-append (LiesIn text) (mark ∷ []) ys (All-push (LiesIn text) [] mark (λ k d below. absurd (omega (arith, below))) l) g)
changed_lie text (Replace m) at mark ts h l =
    All-append (LiesIn text) (take at ts) (mark ∷ drop (at + 1) ts) (All-take (LiesIn text) at ts h)
    (All-append (LiesIn text) (mark ∷ []) (drop (at + 1) ts) (All-push (LiesIn text) [] mark (λ k d below. absurd (omega (arith, below))) l) (All-drop (LiesIn text) (at + 1) ts h))
changed_lie text Remove at mark ts h l = All-append (LiesIn text) (take at ts) (drop (at + 1) ts) (All-take (LiesIn text) at ts h) (All-drop (LiesIn text) (at + 1) ts h)

range_lies : (text : List ℕ) (ts : List Token) (a b : ℕ) → All (LiesIn text) ts → All (LiesIn text) (slice_range ts a b)
range_lies text ts a b h = All-take (LiesIn text) (b - a) (drop a ts) (All-drop (LiesIn text) a ts h)

pub repaired_lie : (text : List ℕ) (r : Repair) (mark close : Token) (ts : List Token) → All (LiesIn text) ts → LiesIn text mark → LiesIn text close → All (LiesIn text) (repaired r mark close ts)
repaired_lie text r mark close ts h l m = go r.scope
  where
    go : (s : Scope) → All (LiesIn text) (repaired (record { at = r.at; change = r.change; scope = s }) mark close ts)
    go Whole = changed_lie text r.change r.at mark ts h l
    go (Declaration header body) =
        All-append (LiesIn text) (slice_range ts header.start header.end) _ (range_lies text ts header.start header.end h)
        (All-append (LiesIn text) (changed r.change (r.at - body.start) mark (slice_range ts body.start body.end)) (close ∷ [])
        (changed_lie text r.change (r.at - body.start) mark (slice_range ts body.start body.end) (range_lies text ts body.start body.end h) l)
        (All-push (LiesIn text) [] close (λ k d below. absurd (omega (arith, below))) m))

pub unrepaired_lie : (text : List ℕ) (s : Scope) (close : Token) (ts trial : List Token) → All (LiesIn text) ts → LiesIn text close → trial ≡ unrepaired s close ts → All (LiesIn text) trial
unrepaired_lie text s close ts trial h m is = subst (λ (l : List Token). All (LiesIn text) l) (sym is) (go s)
  where
    go : (s : Scope) → All (LiesIn text) (unrepaired s close ts)
    go Whole = h
    go (Declaration header body) =
        All-append (LiesIn text) (slice_range ts header.start header.end) _ (range_lies text ts header.start header.end h)
        (All-append (LiesIn text) (slice_range ts body.start body.end) (close ∷ []) (range_lies text ts body.start body.end h)
        (All-push (LiesIn text) [] close (λ k d below. absurd (omega (arith, below))) m))

-- ---- what a trial is made of

pub replaced_is : (old front put new ts : List Token) (at : ℕ) (mark : Token) (change : TokenChange) (m : Mark) → change ≡ Replace m → front ≡ old ++ take at ts → put ≡ front ++ (mark ∷ []) → new ≡ put ++ drop 1 (drop at ts) → new ≡ old ++ changed change at mark ts
replaced_is old front put new ts at mark change m is f p n =
    n ∙ (ap (λ (l : List Token). l ++ drop 1 (drop at ts)) (p ∙ ap (λ (l : List Token). l ++ (mark ∷ [])) f)
    ∙ (append_assoc (old ++ take at ts) (mark ∷ []) (drop 1 (drop at ts))
    ∙ (append_assoc old (take at ts) (mark ∷ drop 1 (drop at ts))
    ∙ (ap (λ (l : List Token). old ++ (take at ts ++ (mark ∷ l))) (rest_is ts at)
    ∙ ap (λ (c : TokenChange). old ++ changed c at mark ts) (sym is)))))

pub removed_is : (old front new ts : List Token) (at : ℕ) (mark : Token) (change : TokenChange) → change ≡ Remove → front ≡ old ++ take at ts → new ≡ front ++ drop 1 (drop at ts) → new ≡ old ++ changed change at mark ts
removed_is old front new ts at mark change is f n =
    n ∙ (ap (λ (l : List Token). l ++ drop 1 (drop at ts)) f
    ∙ (append_assoc old (take at ts) (drop 1 (drop at ts))
    ∙ (ap (λ (l : List Token). old ++ (take at ts ++ l)) (rest_is ts at)
    ∙ ap (λ (c : TokenChange). old ++ changed c at mark ts) (sym is))))

abbrev pub GoesOn : List ℕ → List ℕ → Type 0
GoesOn old new = (rest : List ℕ) × (new ≡ old ++ rest)

pub both : (source text more : List ℕ) → GoesOn source text → GoesOn text more → GoesOn source more
both source text more a b = (a.0 ++ b.0, b.1 ∙ (ap (λ (l : List ℕ). l ++ b.0) a.1 ∙ append_assoc source a.0 b.0))

pub all_on : (source text : List ℕ) (ts : List Token) → GoesOn source text → All (LiesIn source) ts → All (LiesIn text) ts
all_on source text ts g h = subst (λ (l : List ℕ). All (LiesIn l) ts) (sym g.1) (all_more source g.0 ts h)

mark_on : (text more : List ℕ) (m : Mark) (t : Token) → GoesOn text more → IsMarkIn text m t → IsMarkIn more m t
mark_on text more m t g h = subst (λ (l : List ℕ). IsMarkIn l m t) (sym g.1) (mark_more text g.0 m t h)

pub from_copy : (source copy text : List ℕ) → copy ≡ source → GoesOn copy text → GoesOn source text
from_copy source copy text e g = subst (λ (l : List ℕ). GoesOn l text) e g

pub trial_lies : (source copy text more : List ℕ) (ts trial : List Token) (r : Repair) (m : Mark) (mark close : Token) → All (LiesIn source) ts → copy ≡ source → GoesOn copy text → IsMarkIn text m mark → GoesOn text more → IsMarkIn more RightBrace close
    → trial ≡ repaired r mark close ts → All (LiesIn more) trial
trial_lies source copy text more ts trial r m mark close h e g put f end is =
    subst (λ (l : List Token). All (LiesIn more) l) (sym is) (repaired_lie more r mark close ts (all_on source more ts (both source text more (from_copy source copy text e g) f) h) (mark_on text more m mark f put).lies end.lies)

put_in : (text : List ℕ) (change : TokenChange) (mark : Token) → IsMarkIn text (mark_of change) mark → IsPutIn text change mark
put_in text (Insert m) mark h = h
put_in text (Replace m) mark h = h
put_in text Remove mark h = tt

pub repair_of : (source copy text more : List ℕ) (ts trial : List Token) (r : Repair) (mark close : Token) (modules : List Module) → copy ≡ source → GoesOn copy text → IsMarkIn text (mark_of r.change) mark → GoesOn text more → IsMarkIn more RightBrace close
    → trial ≡ repaired r mark close ts → Spells modules more trial → ((others : List Module) → ¬ (Spells others more (unrepaired r.scope close ts))) → IsRepair source ts r
repair_of source copy text more ts trial r mark close modules e g put f end is spelled unread =
    let on = both source text more (from_copy source copy text e g) f in
    record {
      rest = on.0;
      text = more;
      extends = on.1;
      mark = mark;
      close = close;
      mark_is = put_in more r.change mark (mark_on text more (mark_of r.change) mark f put);
      close_is = end;
      modules = modules;
      spelled = subst (λ (l : List Token). Spells modules more l) is spelled;
      unread = unread;
    }

pub some_of : {X : Type 0} {P : X → Type 0} (o : Option X) → IfSome o P → is_some o ≡ true → (x : X) × P x
some_of (Some x) h e = (x, h)
some_of None h e = absurd (false≢true e)
