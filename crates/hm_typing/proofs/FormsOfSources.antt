-- Worked sources of the other forms of expressions and patterns.
use Rattle.std.proofs.Common.{◌≡◌, ℕ, true, inl, inr, refl, sym, ap, ◌∙◌, subst, arith}
use Rattle.hm_types.specs.Types.{Var, App, done, more, put}
use Rattle.hm_typing.specs.Schemes.{Monotype, arrow, instance, monomorphic, closed, IsInstance}
use Rattle.hm_typing.specs.Assumptions.{Assumptions, empty, bind}
use Rattle.hm_typing.specs.Patterns.{list}
use Rattle.hm_typing.specs.Syntax.{Integer, Literal, bool}
use Rattle.hm_typing.specs.Typing.{HasType}
use Rattle.hm_typing.specs.SecondForm.{DeriveClauses}
use Rattle.hm_typing.specs.Sources.{f, x, y, otherwise, int, char, pair_type, is, nest, nested_type, nested_clauses, typed_body, case_of_text, guarded_clause, polymorphic_recursion, unsigned_recursion, with_otherwise, IsTypedWith, HasNoSchemes}
use Rattle.hm_typing.proofs.Bridge.{HasType-Derives, own_unsigned}
use Rattle.hm_typing.proofs.Groups.{cond_true}
use Rattle.hm_typing.proofs.WorkedSources.{differ, its_type, at_type, found, behind, only, nothing_listed, alone, signed_alone, typed_with, always, two, f≢x, x≢y, argument, not_own_pair}

otherwise≢f : ¬ (otherwise ≡ f)
otherwise≢f = differ otherwise f (λ e. omega arith)

otherwise≢x : ¬ (otherwise ≡ x)
otherwise≢x = differ otherwise x (λ e. omega arith)

otherwise≢y : ¬ (otherwise ≡ y)
otherwise≢y = differ otherwise y (λ e. omega arith)

-- \x -> x :: Int
pub typed_body_typed : HasType empty typed_body (arrow int int)
typed_body_typed = HasType-Derives typed_body empty empty _ (λ v u h. h) (record {
  variables = λ w. int;
  parameters = λ j. int;
  result = int;
  function = refl;
  matched = (refl, tt);
  body = ((λ us. inl (refl, its_type int)), (Var, refl));
})

-- case "s" of { x : _ -> x ; [] -> 'z' }
pub case_of_text_typed : HasType empty case_of_text char
case_of_text_typed = HasType-Derives case_of_text empty empty _ (λ v u h. h) (
  list char,
  (
    refl,
    (
      record {
        variables = λ w. char;
        parameters = λ j. list char;
        result = char;
        function = refl;
        matched = ((two char (list char), ((always char, refl), (refl, (tt, tt)))), tt);
        body = record { schemes = λ w. monomorphic char; listed = nothing_listed (bind x (monomorphic char) empty) (λ w. monomorphic char); body = (inl (refl, its_type char), tt) };
      },
      (
        record {
          variables = λ w. char;
          parameters = λ j. list char;
          result = char;
          function = refl;
          matched = ((always char, ((always char, refl), tt)), tt);
          body = record { schemes = λ w. monomorphic char; listed = nothing_listed empty (λ w. monomorphic char); body = (refl, tt) };
        },
        tt,
      ),
    ),
  ),
)

-- f x | x = y | otherwise = 2 where { y = 1 }
number_derived : (A : Assumptions) → DeriveClauses A (is (Literal Integer)) int
number_derived A = (
  record {
    variables = λ w. int;
    parameters = λ j. int;
    result = int;
    function = refl;
    matched = tt;
    body = record { schemes = λ w. monomorphic int; listed = nothing_listed A (λ w. monomorphic int); body = (refl, tt) };
  },
  tt,
)

pub guarded_clause_typed : IsTypedWith with_otherwise guarded_clause f (closed (arrow bool int))
guarded_clause_typed = typed_with with_otherwise guarded_clause (λ v. closed (arrow bool int)) f (inl refl)
    (alone f _ with_otherwise (λ v. closed (arrow bool int)) (λ us.
    let C = bind x (monomorphic bool) (bind f (monomorphic (instance (closed (arrow bool int)) us)) with_otherwise) in (
      record {
        variables = λ w. bool;
        parameters = λ j. bool;
        result = int;
        function = refl;
        matched = (refl, tt);
        body = record {
          schemes = λ w. closed int;
          listed = alone y (is (Literal Integer)) C (λ w. closed int) (λ vs. number_derived (bind y (monomorphic (instance (closed int) vs)) C));
          body = (
            inr (x≢y, inl (refl, its_type bool)),
            (inl (refl, at_type int Var), (inr (otherwise≢y, inr (otherwise≢x, inr (otherwise≢f, inl (refl, at_type bool Var)))), (refl, tt))),
          );
        };
      },
      tt,
    )))

-- f :: Nest a -> Int ; f (Flat x) = 0 ; f (Deep x) = f x
nested_derived : (us : ℕ → Monotype) → DeriveClauses (bind f (closed nested_type) empty) nested_clauses (put us nested_type)
nested_derived us = (
  record {
    variables = λ w. a;
    parameters = λ j. nest a;
    result = int;
    function = refl;
    matched = ((always a, ((always a, refl), (refl, tt))), tt);
    body = record { schemes = λ w. monomorphic a; listed = nothing_listed (bind x (monomorphic a) (bind f (closed nested_type) empty)) (λ w. monomorphic a); body = (refl, tt) };
  },
  (
    record {
      variables = λ w. deeper;
      parameters = λ j. nest a;
      result = int;
      function = refl;
      matched = ((always deeper, ((always a, refl), (refl, tt))), tt);
      body = record {
        schemes = λ w. monomorphic a;
        listed = nothing_listed (bind x (monomorphic deeper) (bind f (closed nested_type) empty)) (λ w. monomorphic a);
        body = ((deeper, (inr (f≢x, inl (refl, at_type nested_type (always (pair_type a a)))), inl (refl, its_type deeper))), tt);
      };
    },
    tt,
  ),
)
  where
    a : Monotype
    a = us 0

    deeper : Monotype
    deeper = nest (pair_type (us 0) (us 0))

pub polymorphic_recursion_typed : IsTypedWith empty polymorphic_recursion f (closed nested_type)
polymorphic_recursion_typed = typed_with empty polymorphic_recursion (λ v. closed nested_type) f (inl refl) (signed_alone f nested_type nested_clauses empty nested_derived)

-- f (Flat x) = 0 ; f (Deep x) = f x
abbrev inside : Monotype → Monotype
inside (Var a) = Var a
inside (App h done) = App h done
inside (App h (more t ts)) = t

pub unsigned_recursion_untyped : (A : Assumptions) → HasNoSchemes A unsigned_recursion
unsigned_recursion_untyped A B l =
    let d = l.bindings.0.1.1.0 in
    let own : l.own f f ≡ true = own_unsigned unsigned_recursion l.own l.units f (inl refl) in
    let p = d.body.body.0 in
    let m = d.matched.0 in
    let used : arrow p.0 d.result ≡ l.types f = only (l.types f) _ (subst (IsInstance (arrow p.0 d.result)) (cond_true (l.own f f) _ _ own) (found (behind f≢x p.1.0))) in
    let its : p.0 ≡ d.variables x = only (d.variables x) p.0 (found p.1.1) in
    -- Nest (a, a) is the type of x, and Nest a that of the whole
    let deep : nest (pair_type (m.1.0.0 0) (m.1.0.0 0)) ≡ d.variables x = sym (ap argument m.1.0.1) ∙ m.1.1.0 in
    let whole : d.parameters 0 ≡ nest (m.1.0.0 0) = ap Rattle.hm_typing.proofs.WorkedSources.result_of m.1.0.1 in
    not_own_pair (m.1.0.0 0) (ap inside (sym whole ∙ (sym (ap argument d.function) ∙ (sym (ap argument used) ∙ (its ∙ sym deep)))))
