-- Keywords, names and numbers as the reader finds them.
use Rattle.std.proofs.Common.{◌≡◌, ◌≤◌, ◌<◌, ◌+◌, ◌*◌, ◌-◌, ◌%◌, ◌/◌, ◌^◌, inl, inr, ℕ, List, [], ◌∷◌, ◌++◌, length, refl, ap, arith, lit≤}
use Rattle.std.specs.List.{AllByRecursion}
use Rattle.std.specs.Fmt.{decimal}
use Rattle.std.proofs.lemmas.Fmt.{decimal_by_steps}
use Rattle.std.proofs.lemmas.List.Sums.{fold-append}
use Rattle.csl_tree.specs.declared.token.Keyword.{Keyword}
use Rattle.csl_tree.specs.declared.token.Keyword.TheVariants as keyword
use Rattle.csl_lexer.specs.Tokens.{IsDigit, IsLetter, IsNameByte, value_of, written}

-- ---- keywords

-- a letter, then letters and digits, at most 64 bytes
pub record IsRun (bytes : List ℕ) : Type 0 where
  pub first : ℕ
  pub rest : List ℕ
  pub split : bytes ≡ first ∷ rest
  pub letter : IsLetter first
  pub all : AllByRecursion IsNameByte rest
  pub short : length bytes ≤ 64

-- a small letter
small : (b : ℕ) → 97 ≤ b → b ≤ 122 → IsLetter b
small b low high = inr (inl (low, high))

-- a small letter in a name
inner : (b : ℕ) → 97 ≤ b → b ≤ 122 → IsNameByte b
inner b low high = inl (small b low high)

pub keyword_run : (w : Keyword) → IsRun (written w)
keyword_run keyword.Shared = record { first = 115; rest = 104 ∷ 97 ∷ 114 ∷ 101 ∷ 100 ∷ []; split = refl; letter = small 115 (lit≤ tt) (lit≤ tt); all = (inner 104 (lit≤ tt) (lit≤ tt), (inner 97 (lit≤ tt) (lit≤ tt), (inner 114 (lit≤ tt) (lit≤ tt), (inner 101 (lit≤ tt) (lit≤ tt), (inner 100 (lit≤ tt) (lit≤ tt), tt))))); short = lit≤ tt }
keyword_run keyword.Int = record { first = 105; rest = 110 ∷ 116 ∷ []; split = refl; letter = small 105 (lit≤ tt) (lit≤ tt); all = (inner 110 (lit≤ tt) (lit≤ tt), (inner 116 (lit≤ tt) (lit≤ tt), tt)); short = lit≤ tt }
keyword_run keyword.Bool = record { first = 98; rest = 111 ∷ 111 ∷ 108 ∷ []; split = refl; letter = small 98 (lit≤ tt) (lit≤ tt); all = (inner 111 (lit≤ tt) (lit≤ tt), (inner 111 (lit≤ tt) (lit≤ tt), (inner 108 (lit≤ tt) (lit≤ tt), tt))); short = lit≤ tt }
keyword_run keyword.Void = record { first = 118; rest = 111 ∷ 105 ∷ 100 ∷ []; split = refl; letter = small 118 (lit≤ tt) (lit≤ tt); all = (inner 111 (lit≤ tt) (lit≤ tt), (inner 105 (lit≤ tt) (lit≤ tt), (inner 100 (lit≤ tt) (lit≤ tt), tt))); short = lit≤ tt }
keyword_run keyword.Tally = record { first = 116; rest = 97 ∷ 108 ∷ 108 ∷ 121 ∷ []; split = refl; letter = small 116 (lit≤ tt) (lit≤ tt); all = (inner 97 (lit≤ tt) (lit≤ tt), (inner 108 (lit≤ tt) (lit≤ tt), (inner 108 (lit≤ tt) (lit≤ tt), (inner 121 (lit≤ tt) (lit≤ tt), tt)))); short = lit≤ tt }
keyword_run keyword.Main = record { first = 109; rest = 97 ∷ 105 ∷ 110 ∷ []; split = refl; letter = small 109 (lit≤ tt) (lit≤ tt); all = (inner 97 (lit≤ tt) (lit≤ tt), (inner 105 (lit≤ tt) (lit≤ tt), (inner 110 (lit≤ tt) (lit≤ tt), tt))); short = lit≤ tt }
keyword_run keyword.Routine = record { first = 114; rest = 111 ∷ 117 ∷ 116 ∷ 105 ∷ 110 ∷ 101 ∷ []; split = refl; letter = small 114 (lit≤ tt) (lit≤ tt); all = (inner 111 (lit≤ tt) (lit≤ tt), (inner 117 (lit≤ tt) (lit≤ tt), (inner 116 (lit≤ tt) (lit≤ tt), (inner 105 (lit≤ tt) (lit≤ tt), (inner 110 (lit≤ tt) (lit≤ tt), (inner 101 (lit≤ tt) (lit≤ tt), tt)))))); short = lit≤ tt }
keyword_run keyword.Parbegin = record { first = 112; rest = 97 ∷ 114 ∷ 98 ∷ 101 ∷ 103 ∷ 105 ∷ 110 ∷ []; split = refl; letter = small 112 (lit≤ tt) (lit≤ tt); all = (inner 97 (lit≤ tt) (lit≤ tt), (inner 114 (lit≤ tt) (lit≤ tt), (inner 98 (lit≤ tt) (lit≤ tt), (inner 101 (lit≤ tt) (lit≤ tt), (inner 103 (lit≤ tt) (lit≤ tt), (inner 105 (lit≤ tt) (lit≤ tt), (inner 110 (lit≤ tt) (lit≤ tt), tt))))))); short = lit≤ tt }
keyword_run keyword.Parend = record { first = 112; rest = 97 ∷ 114 ∷ 101 ∷ 110 ∷ 100 ∷ []; split = refl; letter = small 112 (lit≤ tt) (lit≤ tt); all = (inner 97 (lit≤ tt) (lit≤ tt), (inner 114 (lit≤ tt) (lit≤ tt), (inner 101 (lit≤ tt) (lit≤ tt), (inner 110 (lit≤ tt) (lit≤ tt), (inner 100 (lit≤ tt) (lit≤ tt), tt))))); short = lit≤ tt }
keyword_run keyword.If = record { first = 105; rest = 102 ∷ []; split = refl; letter = small 105 (lit≤ tt) (lit≤ tt); all = (inner 102 (lit≤ tt) (lit≤ tt), tt); short = lit≤ tt }
keyword_run keyword.Else = record { first = 101; rest = 108 ∷ 115 ∷ 101 ∷ []; split = refl; letter = small 101 (lit≤ tt) (lit≤ tt); all = (inner 108 (lit≤ tt) (lit≤ tt), (inner 115 (lit≤ tt) (lit≤ tt), (inner 101 (lit≤ tt) (lit≤ tt), tt))); short = lit≤ tt }
keyword_run keyword.While = record { first = 119; rest = 104 ∷ 105 ∷ 108 ∷ 101 ∷ []; split = refl; letter = small 119 (lit≤ tt) (lit≤ tt); all = (inner 104 (lit≤ tt) (lit≤ tt), (inner 105 (lit≤ tt) (lit≤ tt), (inner 108 (lit≤ tt) (lit≤ tt), (inner 101 (lit≤ tt) (lit≤ tt), tt)))); short = lit≤ tt }
keyword_run keyword.For = record { first = 102; rest = 111 ∷ 114 ∷ []; split = refl; letter = small 102 (lit≤ tt) (lit≤ tt); all = (inner 111 (lit≤ tt) (lit≤ tt), (inner 114 (lit≤ tt) (lit≤ tt), tt)); short = lit≤ tt }
keyword_run keyword.Break = record { first = 98; rest = 114 ∷ 101 ∷ 97 ∷ 107 ∷ []; split = refl; letter = small 98 (lit≤ tt) (lit≤ tt); all = (inner 114 (lit≤ tt) (lit≤ tt), (inner 101 (lit≤ tt) (lit≤ tt), (inner 97 (lit≤ tt) (lit≤ tt), (inner 107 (lit≤ tt) (lit≤ tt), tt)))); short = lit≤ tt }
keyword_run keyword.Continue = record { first = 99; rest = 111 ∷ 110 ∷ 116 ∷ 105 ∷ 110 ∷ 117 ∷ 101 ∷ []; split = refl; letter = small 99 (lit≤ tt) (lit≤ tt); all = (inner 111 (lit≤ tt) (lit≤ tt), (inner 110 (lit≤ tt) (lit≤ tt), (inner 116 (lit≤ tt) (lit≤ tt), (inner 105 (lit≤ tt) (lit≤ tt), (inner 110 (lit≤ tt) (lit≤ tt), (inner 117 (lit≤ tt) (lit≤ tt), (inner 101 (lit≤ tt) (lit≤ tt), tt))))))); short = lit≤ tt }
keyword_run keyword.Return = record { first = 114; rest = 101 ∷ 116 ∷ 117 ∷ 114 ∷ 110 ∷ []; split = refl; letter = small 114 (lit≤ tt) (lit≤ tt); all = (inner 101 (lit≤ tt) (lit≤ tt), (inner 116 (lit≤ tt) (lit≤ tt), (inner 117 (lit≤ tt) (lit≤ tt), (inner 114 (lit≤ tt) (lit≤ tt), (inner 110 (lit≤ tt) (lit≤ tt), tt))))); short = lit≤ tt }
keyword_run keyword.Assert = record { first = 97; rest = 115 ∷ 115 ∷ 101 ∷ 114 ∷ 116 ∷ []; split = refl; letter = small 97 (lit≤ tt) (lit≤ tt); all = (inner 115 (lit≤ tt) (lit≤ tt), (inner 115 (lit≤ tt) (lit≤ tt), (inner 101 (lit≤ tt) (lit≤ tt), (inner 114 (lit≤ tt) (lit≤ tt), (inner 116 (lit≤ tt) (lit≤ tt), tt))))); short = lit≤ tt }
keyword_run keyword.Print = record { first = 112; rest = 114 ∷ 105 ∷ 110 ∷ 116 ∷ []; split = refl; letter = small 112 (lit≤ tt) (lit≤ tt); all = (inner 114 (lit≤ tt) (lit≤ tt), (inner 105 (lit≤ tt) (lit≤ tt), (inner 110 (lit≤ tt) (lit≤ tt), (inner 116 (lit≤ tt) (lit≤ tt), tt)))); short = lit≤ tt }
keyword_run keyword.True = record { first = 116; rest = 114 ∷ 117 ∷ 101 ∷ []; split = refl; letter = small 116 (lit≤ tt) (lit≤ tt); all = (inner 114 (lit≤ tt) (lit≤ tt), (inner 117 (lit≤ tt) (lit≤ tt), (inner 101 (lit≤ tt) (lit≤ tt), tt))); short = lit≤ tt }
keyword_run keyword.False = record { first = 102; rest = 97 ∷ 108 ∷ 115 ∷ 101 ∷ []; split = refl; letter = small 102 (lit≤ tt) (lit≤ tt); all = (inner 97 (lit≤ tt) (lit≤ tt), (inner 108 (lit≤ tt) (lit≤ tt), (inner 115 (lit≤ tt) (lit≤ tt), (inner 101 (lit≤ tt) (lit≤ tt), tt)))); short = lit≤ tt }
keyword_run keyword.Least = record { first = 108; rest = 101 ∷ 97 ∷ 115 ∷ 116 ∷ []; split = refl; letter = small 108 (lit≤ tt) (lit≤ tt); all = (inner 101 (lit≤ tt) (lit≤ tt), (inner 97 (lit≤ tt) (lit≤ tt), (inner 115 (lit≤ tt) (lit≤ tt), (inner 116 (lit≤ tt) (lit≤ tt), tt)))); short = lit≤ tt }
keyword_run keyword.Greatest = record { first = 103; rest = 114 ∷ 101 ∷ 97 ∷ 116 ∷ 101 ∷ 115 ∷ 116 ∷ []; split = refl; letter = small 103 (lit≤ tt) (lit≤ tt); all = (inner 114 (lit≤ tt) (lit≤ tt), (inner 101 (lit≤ tt) (lit≤ tt), (inner 97 (lit≤ tt) (lit≤ tt), (inner 116 (lit≤ tt) (lit≤ tt), (inner 101 (lit≤ tt) (lit≤ tt), (inner 115 (lit≤ tt) (lit≤ tt), (inner 116 (lit≤ tt) (lit≤ tt), tt))))))); short = lit≤ tt }

-- ---- numbers

-- digits that write a number
pub record IsDecimal (n : ℕ) (bytes : List ℕ) : Type 0 where
  pub first : ℕ
  pub rest : List ℕ
  pub split : bytes ≡ first ∷ rest
  pub digit : IsDigit first
  pub all : AllByRecursion IsDigit rest
  pub value : value_of bytes ≡ n

all_append : (xs : List ℕ) (d : ℕ) → AllByRecursion IsDigit xs → IsDigit d → AllByRecursion IsDigit (xs ++ d ∷ [])
all_append [] d all h = (h, tt)
all_append (x ∷ xs) d all h = (all.0, all_append xs d all.1 h)

one_digit : (n : ℕ) → n < 10 → IsDecimal n ((48 + n) ∷ [])
one_digit n h = record { first = 48 + n; rest = []; split = refl; digit = (omega arith, omega arith); all = tt; value = omega arith }

more_digits : (n : ℕ) (bytes : List ℕ) → 10 ≤ n → IsDecimal (n / 10) bytes → IsDecimal n (bytes ++ ((48 + n % 10) ∷ []))
more_digits n bytes h d =
    let last : IsDigit (48 + n % 10) = (omega arith, omega arith) in
    let whole : value_of (bytes ++ ((48 + n % 10) ∷ [])) ≡ 10 * value_of bytes + ((48 + n % 10) - 48) = fold-append (λ m b. 10 * m + (b - 48)) 0 bytes ((48 + n % 10) ∷ []) in
    record {
      first = d.first;
      rest = d.rest ++ ((48 + n % 10) ∷ []);
      split = ap (λ x. x ++ ((48 + n % 10) ∷ [])) d.split;
      digit = d.digit;
      all = all_append d.rest (48 + n % 10) d.all last;
      value = omega (arith, whole, d.value);
    }

pub decimal_is : (n : ℕ) → n < 2 ^ 64 → IsDecimal n (decimal n)
decimal_is n small = decimal_by_steps IsDecimal one_digit more_digits n small
