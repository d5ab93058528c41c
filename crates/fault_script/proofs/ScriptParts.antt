-- The tests of a script's parts, and what is read item by item.
use Rattle.std.proofs.Common.{◌≡◌, ℕ, ◌<◌, Bool, true, false, cond, List, [], ◌∷◌, ◌++◌, map, refl, sym, ap, ◌∙◌, arith, Option, Some, None, append_assoc}
use Rattle.std.specs.Prelude.{option_map}
use Rattle.std.specs.List.{AllByRecursion}
use Rattle.std.proofs.lemmas.Bool.Decides.{eqb_tells}
use Rattle.std.proofs.Math.Bool.{true≢false}
use Rattle.std.specs.Str.{IsUtf8, is_utf8}
use Rattle.std.proofs.lemmas.Str.{IsUtf8-from_is_utf8, is_utf8-from_IsUtf8}
use Rattle.toml.specs.Parse.{parse_document}
use Rattle.toml.specs.Data.{Members}
use Rattle.fault_script.specs.Rows.{Row, has, AscendAbove, AreApart, AreNumbers}
use Rattle.fault_script.specs.Scripts.{in_front, ascend_above, are_apart, are_different, table_in}

-- what the test of two lists says
pub apart_from : (some others : List ℕ) → are_apart some others ≡ true → AreApart some others
apart_from [] others test i found = absurd (true≢false (sym found))
apart_from (n ∷ some) others test i found = grind (arith, test, found, eqb_tells n i, apart_from some others, i)

-- what the test of one list says
pub ascends_from : (low : ℕ) (numbers : List ℕ) → ascend_above low numbers ≡ true → AscendAbove low numbers
ascends_from low [] test = tt
ascends_from low (n ∷ numbers) test =
    let here : low < n = grind (arith, test) in
    let there : ascend_above n numbers ≡ true = grind (arith, test) in
    (here, ascends_from n numbers there)

-- what the test of the rows' numbers says
pub different_from : (rows : List Row) → AllByRecursion (λ row. row.number < 32) rows → are_different (map (λ row. row.number) rows) ≡ true → AreNumbers (map (λ row. row.number) rows)
different_from [] workers test = tt
different_from (row ∷ rows) workers test =
    let numbers = map (λ (row : Row). row.number) rows in
    let here : has numbers row.number ≡ false = grind (arith, test) in
    let there : are_different numbers ≡ true = grind (arith, test) in
    (workers.0, here, different_from rows workers.1 there)

-- one more is below 32 too
pub workers_push : (rows : List Row) (row : Row) → AllByRecursion (λ row. row.number < 32) rows → row.number < 32 → AllByRecursion (λ row. row.number < 32) (rows ++ row ∷ [])
workers_push [] row workers below = (below, tt)
workers_push (first ∷ rows) row workers below = (workers.0, workers_push rows row workers.1 below)

-- these, and then those
abbrev pub behind : {A : Type 0} → List A → Option (List A) → Option (List A)
behind done rest = option_map (λ more. done ++ more) rest

-- one more of them
pub behind_more : {A : Type 0} (done : List A) (x : A) (rest : Option (List A)) → behind (done ++ x ∷ []) rest ≡ behind done (in_front (Some x) rest)
behind_more done x None = refl
behind_more done x (Some more) = ap (λ l. Some l) (append_assoc done (x ∷ []) more)

-- one that can't be read
pub behind_none : {A : Type 0} (done : List A) (rest : Option (List A)) → behind done (in_front None rest) ≡ None
behind_none done rest = refl

-- a text is read as its table
pub table_of_text : (bytes : List ℕ) (known : Members) → IsUtf8 bytes → parse_document bytes ≡ Some known → table_in bytes ≡ Some known
table_of_text bytes known text read = ap (λ t. cond t (parse_document bytes) None) (is_utf8-from_IsUtf8 bytes text) ∙ read

-- bytes that are no text, or a text that is no table, give none
pub no_table : (bytes : List ℕ) → (IsUtf8 bytes → parse_document bytes ≡ None) → table_in bytes ≡ None
no_table bytes unread = by (is_utf8 bytes) refl
  where
    by : (t : Bool) → is_utf8 bytes ≡ t → table_in bytes ≡ None
    by true e = ap (λ t. cond t (parse_document bytes) None) e ∙ unread (IsUtf8-from_is_utf8 bytes e)
    by false e = ap (λ t. cond t (parse_document bytes) None) e
