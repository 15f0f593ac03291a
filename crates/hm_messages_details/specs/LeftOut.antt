-- The names of the Report's Prelude (chapter 8) that this Prelude leaves out. Classes aren't here, because the name of a class is never looked up.
-- No constructor is left out.
use Rattle.std.specs.Prelude.{ℕ, List, [], ◌∷◌, Contains, codes}
use Rattle.hm_syntax.specs.declared.ast.Module.{Module}
use Rattle.hm_names.specs.declared.faults.Fault.{Fault}
use Rattle.hm_messages_details.specs.Roles.{HasRole}
use Rattle.hm_messages_details.specs.declared.role.Role.{Role}
use Rattle.hm_messages_details.specs.declared.role.Role.TheVariants.{Variable, ExportedVariable, Constructor, TypeConstructor, TypeVariable}

-- types
abbrev pub left_out_types : List (List ℕ)
left_out_types =
    codes "Double" ∷ codes "FilePath" ∷ codes "Float" ∷ codes "IO" ∷ codes "IOError" ∷ codes "Integer" ∷
    codes "Rational" ∷ codes "ReadS" ∷ codes "ShowS" ∷ []

-- variables, including methods
abbrev pub left_out_variables : List (List ℕ)
left_out_variables =
    codes "abs" ∷ codes "acos" ∷ codes "acosh" ∷ codes "appendFile" ∷ codes "asin" ∷ codes "asinh" ∷ codes "atan" ∷
    codes "atan2" ∷ codes "atanh" ∷ codes "catch" ∷ codes "ceiling" ∷ codes "compare" ∷ codes "cos" ∷ codes "cosh" ∷
    codes "decodeFloat" ∷ codes "div" ∷ codes "divMod" ∷ codes "elem" ∷ codes "encodeFloat" ∷ codes "enumFrom" ∷
    codes "enumFromThen" ∷ codes "enumFromThenTo" ∷ codes "enumFromTo" ∷ codes "even" ∷ codes "exp" ∷
    codes "exponent" ∷ codes "fail" ∷ codes "floatDigits" ∷ codes "floatRadix" ∷ codes "floatRange" ∷ codes "floor" ∷
    codes "fmap" ∷ codes "fromEnum" ∷ codes "fromInteger" ∷ codes "fromIntegral" ∷ codes "fromRational" ∷
    codes "gcd" ∷ codes "getChar" ∷ codes "getContents" ∷ codes "getLine" ∷ codes "interact" ∷ codes "ioError" ∷
    codes "isDenormalized" ∷ codes "isIEEE" ∷ codes "isInfinite" ∷ codes "isNaN" ∷ codes "isNegativeZero" ∷
    codes "lcm" ∷ codes "lex" ∷ codes "log" ∷ codes "logBase" ∷ codes "lookup" ∷ codes "mapM" ∷ codes "mapM_" ∷
    codes "max" ∷ codes "maxBound" ∷ codes "maximum" ∷ codes "min" ∷ codes "minBound" ∷ codes "minimum" ∷
    codes "mod" ∷ codes "negate" ∷ codes "notElem" ∷ codes "odd" ∷ codes "pi" ∷ codes "pred" ∷ codes "print" ∷
    codes "product" ∷ codes "properFraction" ∷ codes "putChar" ∷ codes "putStr" ∷ codes "putStrLn" ∷ codes "quot" ∷
    codes "quotRem" ∷ codes "read" ∷ codes "readFile" ∷ codes "readIO" ∷ codes "readList" ∷ codes "readLn" ∷
    codes "readParen" ∷ codes "reads" ∷ codes "readsPrec" ∷ codes "realToFrac" ∷ codes "recip" ∷ codes "rem" ∷
    codes "return" ∷ codes "round" ∷ codes "scaleFloat" ∷ codes "scanl1" ∷ codes "scanr1" ∷ codes "sequence" ∷
    codes "sequence_" ∷ codes "show" ∷ codes "showChar" ∷ codes "showList" ∷ codes "showParen" ∷ codes "showString" ∷
    codes "shows" ∷ codes "showsPrec" ∷ codes "significand" ∷ codes "signum" ∷ codes "sin" ∷ codes "sinh" ∷
    codes "sqrt" ∷ codes "subtract" ∷ codes "succ" ∷ codes "sum" ∷ codes "tan" ∷ codes "tanh" ∷ codes "toEnum" ∷
    codes "toInteger" ∷ codes "toRational" ∷ codes "truncate" ∷ codes "unzip3" ∷ codes "userError" ∷
    codes "writeFile" ∷ codes "zip3" ∷ codes "zipWith3" ∷ []

-- the Report's Prelude has this name for what it stands for, and this one leaves it out
abbrev pub IsLeftOutAs : Role → List ℕ → Type 0
IsLeftOutAs Variable x = Contains left_out_variables x
IsLeftOutAs ExportedVariable x = Contains left_out_variables x
IsLeftOutAs Constructor x = ⊥
IsLeftOutAs TypeConstructor x = Contains left_out_types x
IsLeftOutAs TypeVariable x = ⊥

-- it is so of the name of the fault, as what it stands for at its place
pub record IsOfReport (m : Module) (f : Fault) : Type 0 where
  pub role : Role
  pub stands : HasRole m f role
  pub left_out : IsLeftOutAs role f.name
