-- A rule that is one rule and then another, lists of rules, and a rule that the first token tells.
use Rattle.std.proofs.Common.{◌≡◌, ℤ, pos, Some, None, List, [], ◌∷◌, ◌++◌, Result, refl, ap, sym, ◌∙◌, subst, append_assoc, append-nil}
use Rattle.csl_tree.specs.declared.name.Name.{Name}
use Rattle.csl_tree.specs.declared.token.Token.{Token}
use Rattle.csl_tree.specs.declared.token.TokenKind.{TokenKind}
use Rattle.csl_tree.specs.declared.token.TokenKind.TheVariants as kind
use Rattle.csl_tree.specs.declared.token.Mark.TheVariants as mark
use Rattle.expression_parser.specs.declared.ParseError.{ParseError}
use Rattle.csl_grammar.specs.Stops.{IsEnded, BeginsOtherThan}
use Rattle.csl_grammar.specs.Programs.{Each, stop, again, MoreOf, no_more, more, ListOf, nothing, something}
use Rattle.csl_tree.specs.declared.program.ArraySize.{ArraySize}
use Rattle.expression_parser.specs.Reading.{Found, Refused, Fails, Answers, IsToken, Tok, tok, NameTok, name_tok, SizeTok, size_tok, Ret, ret, Then, seq, Either, this, that, Until, MoreUntil}
use Rattle.expression_parser.specs.Reading.{ListUntil, Completes, Parting, Repeating, stops_anywhere, number_of}
use Rattle.csl_grammar.proofs.Unique.{begins_clash}
use Rattle.expression_parser.proofs.Sequence.{Cut, Sequence, Passes, after_first, second_error, after_second, passes_second, passes_through, passes_same, passed_error}
use Rattle.expression_parser.proofs.Single.{some_token, ended_behind, token_found}

-- what makes `Then` readable: a first part has one end and one tree, what follows it stops it, and from behind it some tree can be finished
pub record Follows {A T : Type 0} (first : List Token → List Token → A → Type 0) (stops : List Token → Type 0) (second : A → List Token → List Token → T → Type 0) (ends : List Token → Type 0) : Type 0
  where
    pub unique : (tokens middle middle' : List Token) (part part' : A) → first tokens middle part → first tokens middle' part' → stops middle → stops middle' → (middle ≡ middle') × (part ≡ part')
    pub same_first : (token : Token) (xs ys : List Token) → stops (token ∷ xs) → stops (token ∷ ys)
    pub ahead : (middle rest : List Token) (part : A) (tree : T) → second part middle rest tree → ends rest → stops middle
    pub completes : (part : A) → Completes (second part)

module _ {A T : Type 0} {first : List Token → List Token → A → Type 0} {stops : List Token → Type 0} {second : A → List Token → List Token → T → Type 0} {ends : List Token → Type 0}
    (f : Follows first stops second ends) where
  then_cut : {tokens rest : List Token} {tree : T} → Then first second tokens rest tree → ends rest → Cut first stops second tokens rest tree
  then_cut {rest = rest} {tree = tree} (seq {middle = m} {part = part} one two) s = record { middle = m; part = part; one = one; stopped = f.ahead m rest part tree two s; two = two }

  pub then_rule : Sequence first stops second (Then first second) ends
  then_rule = record {
    join = λ tokens middle rest part tree one two. seq one two;
    cut = λ tokens rest tree d s. then_cut d s;
    unique = f.unique;
    same_first = f.same_first;
    ending = λ part. (f.completes part).ending;
    finished = λ part. (f.completes part).finished;
    some = λ part others. (f.completes part).some others;
  }

  pub then_first : (tokens : List Token) (e : ParseError) → Fails first stops tokens e → Fails (Then first second) ends tokens e
  then_first tokens e h = after_first first stops second (Then first second) ends then_rule tokens e h

  pub then_second : (tokens middle : List Token) (part : A) (e : ParseError) → Found first stops tokens middle part → Fails (second part) ends middle e → Fails (Then first second) ends tokens e
  then_second tokens middle part e g h = second_error first stops second (Then first second) ends then_rule tokens middle part e g h

  pub then_found : (tokens middle rest : List Token) (part : A) (tree : T) → Found first stops tokens middle part → Found (second part) ends middle rest tree
      → Found (Then first second) ends tokens rest tree
  then_found tokens middle rest part tree g h = (passes_second first stops second (Then first second) ends then_rule tokens middle part g).found rest tree h

  pub then_answers : {X : Type 0} (view : X → T × List Token) (tokens middle : List Token) (part : A) (result : Result X ParseError) → Found first stops tokens middle part
      → Answers (second part) ends middle view result → Answers (Then first second) ends tokens view result
  then_answers view tokens middle part result g h = after_second first stops second (Then first second) ends then_rule view tokens middle part result g h

  pub then_passes : (tokens middle : List Token) (part : A) → Found first stops tokens middle part → Passes (second part) (Then first second) ends middle tokens
  then_passes tokens middle part g = passes_second first stops second (Then first second) ends then_rule tokens middle part g

-- ---- what completes

pub completes_ret : {T : Type 0} (known : T) → Completes (Ret known)
completes_ret known = record { ending = []; finished = known; some = λ others. ret }

pub completes_tok : (k : TokenKind) → Completes (Tok k)
completes_tok k = record { ending = some_token k ∷ []; finished = some_token k; some = λ others. tok refl }

pub no_name : Name
no_name = record { text = []; at = 0 }

pub completes_name : Completes NameTok
completes_name = record { ending = some_token (kind.Named no_name) ∷ []; finished = no_name; some = λ others. name_tok refl }

pub completes_size : Completes SizeTok
completes_size = record { ending = some_token (kind.Number (pos 0)) ∷ []; finished = record { at = 0; number = pos 0 }; some = λ others. size_tok refl }

pub completes_then : {A T : Type 0} {first : List Token → List Token → A → Type 0} {second : A → List Token → List Token → T → Type 0} → Completes first → ((part : A) → Completes (second part))
    → Completes (Then first second)
completes_then {first = first} {second = second} one two =
    let rest = two one.finished in
    record {
      ending = one.ending ++ rest.ending;
      finished = rest.finished;
      some = λ others.
          let along : List Token → Type 0 = λ x. Then first second x others rest.finished in
          subst along (sym (append_assoc one.ending rest.ending others)) (seq (one.some (rest.ending ++ others)) (rest.some others));
    }

pub completes_this : {T : Type 0} {one two : List Token → List Token → T → Type 0} → Completes one → Completes (Either one two)
completes_this c = record { ending = c.ending; finished = c.finished; some = λ others. this (c.some others) }

-- ---- tokens

same_tok : {k : TokenKind} {tokens middle middle' : List Token} {t t' : Token} → Tok k tokens middle t → Tok k tokens middle' t' → (middle ≡ middle') × (t ≡ t')
same_tok (tok a) (tok b) = (refl, refl)

same_name : {ts ts' middle middle' : List Token} {n n' : Name} → NameTok ts middle n → NameTok ts' middle' n' → ts ≡ ts' → (middle ≡ middle') × (n ≡ n')
same_name (name_tok a) (name_tok b) e = ((cc), (cc))

same_size : {ts ts' middle middle' : List Token} {n n' : ArraySize} → SizeTok ts middle n → SizeTok ts' middle' n' → ts ≡ ts' → (middle ≡ middle') × (n ≡ n')
same_size (size_tok a) (size_tok b) e = ((cc), (cc))

pub tok_follows : {T : Type 0} (k : TokenKind) {second : Token → List Token → List Token → T → Type 0} (ends : List Token → Type 0) → ((token : Token) → Completes (second token))
    → Follows (Tok k) stops_anywhere second ends
tok_follows k ends completes = record {
  unique = λ tokens middle middle' t t' d d' s s'. same_tok d d';
  same_first = λ token xs ys s. tt;
  ahead = λ middle rest part tree d s. tt;
  completes = completes;
}

pub name_follows : {T : Type 0} {second : Name → List Token → List Token → T → Type 0} (ends : List Token → Type 0) → ((name : Name) → Completes (second name))
    → Follows NameTok stops_anywhere second ends
name_follows ends completes = record {
  unique = λ tokens middle middle' t t' d d' s s'. same_name d d' refl;
  same_first = λ token xs ys s. tt;
  ahead = λ middle rest part tree d s. tt;
  completes = completes;
}

pub size_follows : {T : Type 0} {second : ArraySize → List Token → List Token → T → Type 0} (ends : List Token → Type 0) → ((size : ArraySize) → Completes (second size))
    → Follows SizeTok stops_anywhere second ends
size_follows ends completes = record {
  unique = λ tokens middle middle' t t' d d' s s'. same_size d d' refl;
  same_first = λ token xs ys s. tt;
  ahead = λ middle rest part tree d s. tt;
  completes = completes;
}

tok_is : {k : TokenKind} {tokens rest : List Token} {t : Token} → Tok k tokens rest t → IsToken k tokens rest t
tok_is (tok h) = (refl, h)

is_tok : {k : TokenKind} {tokens rest : List Token} {t : Token} → IsToken k tokens rest t → Tok k tokens rest t
is_tok {k = k} {rest = rest} {t = t} h = let at : List Token → Type 0 = λ x. Tok k x rest t in subst at (sym h.0) (tok h.1)

tokens_same : (k : TokenKind) (tokens : List Token) → Passes (IsToken k) (Tok k) stops_anywhere tokens tokens
tokens_same k tokens = passes_same (IsToken k) (Tok k) stops_anywhere tokens (record { there = λ ts r t h. is_tok h; back = λ ts r t h s. tok_is h })

-- what `expect` answers
pub tok_found : {k : TokenKind} {tokens rest : List Token} {t : Token} → Found (IsToken k) stops_anywhere tokens rest t → Found (Tok k) stops_anywhere tokens rest t
tok_found {k = k} {tokens = tokens} {rest = rest} {t = t} f = (tokens_same k tokens).found rest t f

pub tok_err : (k : TokenKind) (tokens : List Token) (e : ParseError) → Fails (IsToken k) stops_anywhere tokens e → Fails (Tok k) stops_anywhere tokens e
tok_err k tokens e h = passed_error _ _ stops_anywhere tokens tokens e (tokens_same k tokens) h

pub ret_found : {T : Type 0} (tree : T) (stops : List Token → Type 0) (tokens : List Token) → stops tokens → IsEnded tokens → Found (Ret tree) stops tokens tokens tree
ret_found tree stops tokens s ended = record {
  read = [];
  split = refl;
  spelled = λ others. ret;
  stopped = s;
  ended = ended;
}

pub name_found : (tokens : List Token) (first : Token) (rest : List Token) (name : Name) → IsEnded tokens → tokens ≡ first ∷ rest → first.kind ≡ kind.Named name
    → Found NameTok stops_anywhere tokens rest name
name_found tokens first rest name ended split same = record {
  read = first ∷ [];
  split = split;
  spelled = λ others. name_tok same;
  stopped = tt;
  ended = ended_behind tokens first rest ended split (λ h. cc);
}

no_name_here : {ts rest others : List Token} {first : Token} {name : Name} → NameTok ts rest name → ts ≡ first ∷ others → ((n : Name) → first.kind ≡ kind.Named n → ⊥) → ⊥
no_name_here (name_tok {name = n} same) e never = never n (cc)

pub name_refused : (tokens : List Token) (first : Token) (rest : List Token) → tokens ≡ first ∷ rest → ((n : Name) → first.kind ≡ kind.Named n → ⊥) → Refused NameTok stops_anywhere tokens first.at
name_refused tokens first rest split never = record {
  read = [];
  token = first;
  left = rest;
  split = split;
  stands = refl;
  none = λ others behind tree d s. no_name_here d refl never;
  ending = completes_name.ending;
  finished = completes_name.finished;
  some = completes_name.some;
}

number_kind : (k : TokenKind) (n : ℤ) → number_of k ≡ Some n → k ≡ kind.Number n
number_kind (kind.Word w) n e = cc
number_kind (kind.Named x) n e = cc
number_kind (kind.Number m) n e = cc
number_kind (kind.Text t) n e = cc
number_kind (kind.Mark m) n e = cc
number_kind kind.End n e = cc

pub size_found : (tokens : List Token) (first : Token) (rest : List Token) (n : ℤ) → IsEnded tokens → tokens ≡ first ∷ rest → number_of first.kind ≡ Some n
    → Found SizeTok stops_anywhere tokens rest (record { at = first.at; number = n })
size_found tokens first rest n ended split is = let same : first.kind ≡ kind.Number n = number_kind first.kind n is in record {
  read = first ∷ [];
  split = split;
  spelled = λ others. size_tok same;
  stopped = tt;
  ended = ended_behind tokens first rest ended split (λ h. cc);
}

no_size_here : {ts rest others : List Token} {first : Token} {size : ArraySize} → SizeTok ts rest size → ts ≡ first ∷ others → number_of first.kind ≡ None → ⊥
no_size_here (size_tok {n = n} same) e none = let at : number_of (kind.Number n) ≡ None = cc in cc

pub size_refused : (tokens : List Token) (first : Token) (rest : List Token) → tokens ≡ first ∷ rest → number_of first.kind ≡ None → Refused SizeTok stops_anywhere tokens first.at
size_refused tokens first rest split none = record {
  read = [];
  token = first;
  left = rest;
  split = split;
  stands = refl;
  none = λ others behind tree d s. no_size_here d refl none;
  ending = completes_size.ending;
  finished = completes_size.finished;
  some = completes_size.some;
}

-- ---- a rule that the first token tells

alike_at : (P : List Token → Type 0) → ((token : Token) (xs ys : List Token) → P (token ∷ xs) → P (token ∷ ys)) → (read : List Token) (token : Token) (left others : List Token)
    → P (read ++ token ∷ left) → P (read ++ token ∷ others)
alike_at P alike [] token left others h = alike token left others h
alike_at P alike (x ∷ read) token left others h = alike x (read ++ token ∷ left) (read ++ token ∷ others) h

-- what is answered for a rule is answered for a wider one that is no wider in front of a first token like this
pub narrowed_by : {T : Type 0} (P : List Token → Type 0) → ((token : Token) (xs ys : List Token) → P (token ∷ xs) → P (token ∷ ys))
    → (one two : List Token → List Token → T → Type 0) (ends : List Token → Type 0) (tokens : List Token) → P tokens → ((ts r : List Token) (tree : T) → one ts r tree → two ts r tree)
    → ((ts r : List Token) (tree : T) → P ts → two ts r tree → ends r → one ts r tree) → Passes one two ends tokens tokens
narrowed_by P alike one two ends tokens holds there back = record {
  found = λ r tree f. record {
    read = f.read;
    split = f.split;
    spelled = λ others. there _ _ _ (f.spelled others);
    stopped = f.stopped;
    ended = f.ended;
  };
  refused = λ at r. record {
    read = r.read;
    token = r.token;
    left = r.left;
    split = r.split;
    stands = r.stands;
    none = λ others behind tree d s.
        r.none others behind tree (back (r.read ++ r.token ∷ others) behind tree (alike_at P alike r.read r.token r.left others (subst P r.split holds)) d s) s;
    ending = r.ending;
    finished = r.finished;
    some = λ others. there _ _ _ (r.some others);
  };
}

-- the tokens begin with this one
abbrev pub BeginsWith : Token → List Token → Type 0
BeginsWith first tokens = (rest : List Token) × (tokens ≡ first ∷ rest)

begins_alike : (first token : Token) (xs ys : List Token) → BeginsWith first (token ∷ xs) → BeginsWith first (token ∷ ys)
begins_alike first token xs ys h = let same : token ≡ first = cc h.1 in (ys, ap (λ x. x ∷ ys) same)

-- the same where the first token is known
pub narrowed : {T : Type 0} (one two : List Token → List Token → T → Type 0) (ends : List Token → Type 0) (tokens : List Token) (first : Token) (rest : List Token) → tokens ≡ first ∷ rest
    → ((ts r : List Token) (tree : T) → one ts r tree → two ts r tree) → ((ts r behind : List Token) (tree : T) → ts ≡ first ∷ behind → two ts r tree → ends r → one ts r tree)
    → Passes one two ends tokens tokens
narrowed one two ends tokens first rest split there back =
    narrowed_by (BeginsWith first) (begins_alike first) one two ends tokens (rest, split) there (λ ts r tree h d s. back ts r h.0 tree h.1 d s)

-- ---- a choice that the first token tells

this_back : {T : Type 0} {one : List Token → List Token → T → Type 0} {k : TokenKind} {second : Token → List Token → List Token → T → Type 0} {ts r : List Token} {tree : T} → BeginsOtherThan k ts
    → Either one (Then (Tok k) second) ts r tree → one ts r tree
this_back other (this d) = d
this_back other (that (seq (tok h) d)) = absurd (other h)

that_back : {T : Type 0} {two : List Token → List Token → T → Type 0} {k : TokenKind} {second : Token → List Token → List Token → T → Type 0} {ts r : List Token} {tree : T} → BeginsOtherThan k ts
    → Either (Then (Tok k) second) two ts r tree → two ts r tree
that_back other (this (seq (tok h) d)) = absurd (other h)
that_back other (that d) = d

-- where the second rule's first token does not come next
pub passes_this : {T : Type 0} (one : List Token → List Token → T → Type 0) (k : TokenKind) (second : Token → List Token → List Token → T → Type 0) (ends : List Token → Type 0) (tokens : List Token)
    → BeginsOtherThan k tokens → Passes one (Either one (Then (Tok k) second)) ends tokens tokens
passes_this one k second ends tokens other =
    narrowed_by (BeginsOtherThan k) (λ token xs ys h. h) one (Either one (Then (Tok k) second)) ends tokens other (λ ts r tree d. this d) (λ ts r tree h d s. this_back h d)

-- where the first rule's first token does not come next
pub passes_that : {T : Type 0} (k : TokenKind) (second : Token → List Token → List Token → T → Type 0) (two : List Token → List Token → T → Type 0) (ends : List Token → Type 0) (tokens : List Token)
    → BeginsOtherThan k tokens → Passes two (Either (Then (Tok k) second) two) ends tokens tokens
passes_that k second two ends tokens other =
    narrowed_by (BeginsOtherThan k) (λ token xs ys h. h) two (Either (Then (Tok k) second) two) ends tokens other (λ ts r tree d. that d) (λ ts r tree h d s. that_back h d)

-- the tokens begin with no token of that kind
pub begins_other : (k : TokenKind) (tokens : List Token) (first : Token) (rest : List Token) → tokens ≡ first ∷ rest → (first.kind ≡ k → ⊥) → BeginsOtherThan k tokens
begins_other k tokens first rest split other = subst (BeginsOtherThan k) (sym split) (at_front first rest other)
  where
    at_front : (first : Token) (rest : List Token) → (first.kind ≡ k → ⊥) → BeginsOtherThan k (first ∷ rest)
    at_front first rest other = other

-- ---- lists up to a token

module _ {T : Type 0} (k : TokenKind) (spells : List Token → List Token → T → Type 0) (stops : List Token → Type 0) where
  pub completes_until : (sofar : List T) → Completes (Until k spells sofar)
  completes_until sofar = record { ending = some_token k ∷ []; finished = sofar; some = λ others. (some_token k, [], stop, refl, sym (append-nil sofar)) }

  pub completes_more : (sofar : List T) → Completes (MoreUntil k spells sofar)
  completes_more sofar = record { ending = some_token k ∷ []; finished = sofar; some = λ others. (some_token k, [], no_more, refl, sym (append-nil sofar)) }

  pub completes_list : Completes (ListUntil k spells)
  completes_list = record { ending = some_token k ∷ []; finished = []; some = λ others. (some_token k, nothing, refl) }

-- a list up to a token
module _ {T : Type 0} {k : TokenKind} {spells : List Token → List Token → T → Type 0} {stops : List Token → Type 0} (elements : Repeating k spells stops) where
  one_follows : (sofar : List T) → Follows spells stops (λ x. Until k spells (sofar ++ x ∷ [])) stops_anywhere
  one_follows sofar = record {
    unique = elements.unique;
    same_first = elements.same_first;
    ahead = λ middle rest x tree d s. elements.before middle rest d.1 d.0 d.2 d.3;
    completes = λ x. completes_until k spells stops (sofar ++ x ∷ []);
  }

  until_there : (sofar : List T) (ts r : List Token) (xs : List T) → Then spells (λ x. Until k spells (sofar ++ x ∷ [])) ts r xs → Until k spells sofar ts r xs
  until_there sofar ts r xs (seq {part = x} one d) = (d.0, x ∷ d.1, again one d.2, d.3, d.4 ∙ append_assoc sofar (x ∷ []) d.1)

  each_back : (sofar : List T) {ts end r : List Token} {xs ys : List T} {closing : Token} → Each spells ts end ys → end ≡ closing ∷ r → closing.kind ≡ k → xs ≡ sofar ++ ys → BeginsOtherThan k ts
      → Then spells (λ x. Until k spells (sofar ++ x ∷ [])) ts r xs
  each_back sofar stop e l is other = absurd (begins_clash _ other e l)
  each_back sofar {closing = closing} (again {middle = m} {x = x} {xs = zs} one rest) e l is other =
      let to : List Token → Type 0 = λ z. Each spells m z zs in
      seq one (closing, zs, subst to e rest, l, is ∙ sym (append_assoc sofar (x ∷ []) zs))

  narrow_until : (sofar : List T) (tokens : List Token) → BeginsOtherThan k tokens → Passes (Then spells (λ x. Until k spells (sofar ++ x ∷ []))) (Until k spells sofar) stops_anywhere tokens tokens
  narrow_until sofar tokens other =
      narrowed_by (BeginsOtherThan k) (λ token xs ys h. h) (Then spells (λ x. Until k spells (sofar ++ x ∷ []))) (Until k spells sofar) stops_anywhere tokens other
      (until_there sofar) (λ ts r xs h d s. each_back sofar d.2 refl d.3 d.4 h)

  -- where the closing token comes next, the list has ended
  pub until_done : (sofar : List T) (tokens : List Token) (first : Token) (rest : List Token) → IsEnded tokens → tokens ≡ first ∷ rest → first.kind ≡ k
      → Found (Until k spells sofar) stops_anywhere tokens rest sofar
  until_done sofar tokens first rest ended split same = record {
    read = first ∷ [];
    split = split;
    spelled = λ others. (first, [], stop, same, sym (append-nil sofar));
    stopped = tt;
    ended = ended_behind tokens first rest ended split (λ h. elements.no_end (sym same ∙ h));
  }

  -- else an element comes
  pub until_err : (sofar : List T) (tokens : List Token) (e : ParseError) → BeginsOtherThan k tokens → Fails spells stops tokens e → Fails (Until k spells sofar) stops_anywhere tokens e
  until_err sofar tokens e other h = passed_error _ _ stops_anywhere tokens tokens e (narrow_until sofar tokens other) (then_first (one_follows sofar) tokens e h)

  pub until_more : (sofar : List T) (tokens middle : List Token) (x : T) → BeginsOtherThan k tokens → Found spells stops tokens middle x
      → Passes (Until k spells (sofar ++ x ∷ [])) (Until k spells sofar) stops_anywhere middle tokens
  until_more sofar tokens middle x other g = passes_through (then_passes (one_follows sofar) tokens middle x g) (narrow_until sofar tokens other)

-- a list with commas, up to a token
module _ {T : Type 0} {k : TokenKind} {spells : List Token → List Token → T → Type 0} {stops : List Token → Type 0} (elements : Parting k spells stops) where
  before_more : {ts end r : List Token} {xs : List T} {last : Token} → MoreOf spells ts end xs → end ≡ last ∷ r → last.kind ≡ k → stops ts
  before_more {r = r} {last = last} no_more e l = subst stops (sym e) (elements.at_end last r l)
  before_more (more {comma = comma} {tokens = tokens} c d m) e l = elements.at_comma comma tokens c

  element_follows : (sofar : List T) → Follows spells stops (λ x. MoreUntil k spells (sofar ++ x ∷ [])) stops_anywhere
  element_follows sofar = record {
    unique = elements.unique;
    same_first = elements.same_first;
    ahead = λ middle rest x tree d s. before_more d.2 refl d.3;
    completes = λ x. completes_more k spells stops (sofar ++ x ∷ []);
  }

  pub first_follows : Follows spells stops (λ x. MoreUntil k spells (x ∷ [])) stops_anywhere
  first_follows = record {
    unique = elements.unique;
    same_first = elements.same_first;
    ahead = λ middle rest x tree d s. before_more d.2 refl d.3;
    completes = λ x. completes_more k spells stops (x ∷ []);
  }

  -- a first element, and more
  list_there : (ts r : List Token) (xs : List T) → Then spells (λ x. MoreUntil k spells (x ∷ [])) ts r xs → ListUntil k spells ts r xs
  list_there ts r xs (seq {part = x} one d) =
      let as_list : List T → Type 0 = λ z. ListUntil k spells ts r z in
      let whole : ListUntil k spells ts r (x ∷ d.1) = (d.0, something one d.2, d.3) in
      subst as_list (sym d.4) whole

  list_back : {ts end r : List Token} {xs : List T} {closing : Token} → ListOf spells ts end xs → end ≡ closing ∷ r → closing.kind ≡ k → BeginsOtherThan k ts
      → Then spells (λ x. MoreUntil k spells (x ∷ [])) ts r xs
  list_back nothing e l other = absurd (begins_clash _ other e l)
  list_back {closing = closing} (something {middle = m} {x = x} {xs = zs} one rest) e l other =
      let to : List Token → Type 0 = λ z. MoreOf spells m z zs in
      seq one (closing, zs, subst to e rest, l, refl)

  narrow_list : (tokens : List Token) → BeginsOtherThan k tokens → Passes (Then spells (λ x. MoreUntil k spells (x ∷ []))) (ListUntil k spells) stops_anywhere tokens tokens
  narrow_list tokens other =
      narrowed_by (BeginsOtherThan k) (λ token xs ys h. h) (Then spells (λ x. MoreUntil k spells (x ∷ []))) (ListUntil k spells) stops_anywhere tokens other
      list_there (λ ts r xs h d s. list_back d.1 refl d.2 h)

  pub list_nothing : (tokens : List Token) (first : Token) (rest : List Token) → IsEnded tokens → tokens ≡ first ∷ rest → first.kind ≡ k
      → Found (ListUntil k spells) stops_anywhere tokens rest []
  list_nothing tokens first rest ended split same = record {
    read = first ∷ [];
    split = split;
    spelled = λ others. (first, nothing, same);
    stopped = tt;
    ended = ended_behind tokens first rest ended split (λ h. elements.no_end (sym same ∙ h));
  }

  pub list_err : (tokens : List Token) (e : ParseError) → BeginsOtherThan k tokens → Fails spells stops tokens e → Fails (ListUntil k spells) stops_anywhere tokens e
  list_err tokens e other h = passed_error _ _ stops_anywhere tokens tokens e (narrow_list tokens other) (then_first first_follows tokens e h)

  pub list_begun : (tokens middle : List Token) (x : T) → BeginsOtherThan k tokens → Found spells stops tokens middle x
      → Passes (MoreUntil k spells (x ∷ [])) (ListUntil k spells) stops_anywhere middle tokens
  list_begun tokens middle x other g = passes_through (then_passes first_follows tokens middle x g) (narrow_list tokens other)

  -- behind a comma
  comma_there : (sofar : List T) (ts r : List Token) (xs : List T) → Then (Tok (kind.Mark mark.Comma)) (λ comma. Then spells (λ x. MoreUntil k spells (sofar ++ x ∷ []))) ts r xs
      → MoreUntil k spells sofar ts r xs
  comma_there sofar ts r xs (seq (tok c) (seq {part = x} one d)) = (d.0, x ∷ d.1, more c one d.2, d.3, d.4 ∙ append_assoc sofar (x ∷ []) d.1)

  comma_back : (sofar : List T) {ts end r behind : List Token} {xs ys : List T} {closing comma : Token} → MoreOf spells ts end ys → end ≡ closing ∷ r → closing.kind ≡ k → xs ≡ sofar ++ ys
      → ts ≡ comma ∷ behind → comma.kind ≡ kind.Mark mark.Comma → (k ≡ kind.Mark mark.Comma → ⊥)
      → Then (Tok (kind.Mark mark.Comma)) (λ comma. Then spells (λ x. MoreUntil k spells (sofar ++ x ∷ []))) ts r xs
  comma_back sofar no_more e l is begins c other = absurd (other (cc))
  comma_back sofar {closing = closing} (more {comma = comma'} {tokens = w} {middle = m} {x = x} {xs = zs} c' one rest) e l is begins c other =
      let to : List Token → Type 0 = λ z. MoreOf spells m z zs in
      seq (tok c') (seq one (closing, zs, subst to e rest, l, is ∙ sym (append_assoc sofar (x ∷ []) zs)))

  comma_follows : (sofar : List T) → Follows (Tok (kind.Mark mark.Comma)) stops_anywhere (λ comma. Then spells (λ x. MoreUntil k spells (sofar ++ x ∷ []))) stops_anywhere
  comma_follows sofar = tok_follows (kind.Mark mark.Comma) stops_anywhere (λ comma. completes_then elements.sample (λ x. completes_more k spells stops (sofar ++ x ∷ [])))

  narrow_comma : (sofar : List T) (tokens : List Token) (comma : Token) (rest : List Token) → tokens ≡ comma ∷ rest → comma.kind ≡ kind.Mark mark.Comma
      → Passes (Then (Tok (kind.Mark mark.Comma)) (λ comma. Then spells (λ x. MoreUntil k spells (sofar ++ x ∷ [])))) (MoreUntil k spells sofar) stops_anywhere tokens tokens
  narrow_comma sofar tokens comma rest split c =
      narrowed (Then (Tok (kind.Mark mark.Comma)) (λ comma. Then spells (λ x. MoreUntil k spells (sofar ++ x ∷ [])))) (MoreUntil k spells sofar) stops_anywhere tokens comma rest split
      (comma_there sofar) (λ ts r behind tree e d s. comma_back sofar d.2 refl d.3 d.4 e c elements.no_comma)

  pub more_err : (sofar : List T) (tokens : List Token) (comma : Token) (rest : List Token) (e : ParseError) → IsEnded tokens → tokens ≡ comma ∷ rest → comma.kind ≡ kind.Mark mark.Comma
      → Fails spells stops rest e → Fails (MoreUntil k spells sofar) stops_anywhere tokens e
  more_err sofar tokens comma rest e ended split c h =
      passed_error _ _ stops_anywhere tokens tokens e (narrow_comma sofar tokens comma rest split c)
      (then_second (comma_follows sofar) tokens rest comma e (tok_found (token_found (kind.Mark mark.Comma) tokens comma rest ended split c (λ h. cc))) (then_first (element_follows sofar) rest e h))

  pub more_step : (sofar : List T) (tokens : List Token) (comma : Token) (rest middle : List Token) (x : T) → IsEnded tokens → tokens ≡ comma ∷ rest → comma.kind ≡ kind.Mark mark.Comma
      → Found spells stops rest middle x → Passes (MoreUntil k spells (sofar ++ x ∷ [])) (MoreUntil k spells sofar) stops_anywhere middle tokens
  more_step sofar tokens comma rest middle x ended split c g =
      passes_through (then_passes (element_follows sofar) rest middle x g)
      (passes_through (then_passes (comma_follows sofar) tokens rest comma (tok_found (token_found (kind.Mark mark.Comma) tokens comma rest ended split c (λ h. cc))))
      (narrow_comma sofar tokens comma rest split c))

  -- where no comma comes next, the closing token is to come
  last_there : (sofar : List T) (ts r : List Token) (xs : List T) → Then (Tok k) (λ closing. Ret sofar) ts r xs → MoreUntil k spells sofar ts r xs
  last_there sofar ts r xs (seq {part = closing} (tok c) ret) = (closing, [], no_more, c, sym (append-nil sofar))

  last_back : (sofar : List T) {ts end r : List Token} {xs ys : List T} {closing : Token} → MoreOf spells ts end ys → end ≡ closing ∷ r → closing.kind ≡ k → xs ≡ sofar ++ ys
      → BeginsOtherThan (kind.Mark mark.Comma) ts → Then (Tok k) (λ closing. Ret sofar) ts r xs
  last_back sofar {ts = ts} {r = r} {xs = xs} {closing = closing} no_more e l is others =
      let from : List Token → Type 0 = λ z. Then (Tok k) (λ closing. Ret sofar) z r xs in
      let at : List T → Type 0 = λ z. Then (Tok k) (λ closing. Ret sofar) (closing ∷ r) r z in
      subst from (sym e) (subst at (sym (is ∙ append-nil sofar)) (seq (tok l) ret))
  last_back sofar (more c one rest) e l is others = absurd (others c)

  last_follows : (sofar : List T) → Follows (Tok k) stops_anywhere (λ closing. Ret sofar) stops_anywhere
  last_follows sofar = tok_follows k stops_anywhere (λ closing. completes_ret sofar)

  narrow_last : (sofar : List T) (tokens : List Token) → BeginsOtherThan (kind.Mark mark.Comma) tokens
      → Passes (Then (Tok k) (λ closing. Ret sofar)) (MoreUntil k spells sofar) stops_anywhere tokens tokens
  narrow_last sofar tokens others =
      narrowed_by (BeginsOtherThan (kind.Mark mark.Comma)) (λ token xs ys h. h) (Then (Tok k) (λ closing. Ret sofar)) (MoreUntil k spells sofar) stops_anywhere tokens others
      (last_there sofar) (λ ts r xs h d s. last_back sofar d.2 refl d.3 d.4 h)

  pub last_err : (sofar : List T) (tokens : List Token) (e : ParseError) → BeginsOtherThan (kind.Mark mark.Comma) tokens → Fails (IsToken k) stops_anywhere tokens e
      → Fails (MoreUntil k spells sofar) stops_anywhere tokens e
  last_err sofar tokens e others h = passed_error _ _ stops_anywhere tokens tokens e (narrow_last sofar tokens others) (then_first (last_follows sofar) tokens e (tok_err k tokens e h))

  pub last_ok : (sofar : List T) (tokens rest : List Token) (closing : Token) → BeginsOtherThan (kind.Mark mark.Comma) tokens → Found (IsToken k) stops_anywhere tokens rest closing
      → Found (MoreUntil k spells sofar) stops_anywhere tokens rest sofar
  last_ok sofar tokens rest closing others g = (narrow_last sofar tokens others).found rest sofar
      (then_found (last_follows sofar) tokens rest rest closing sofar (tok_found g) (ret_found sofar stops_anywhere rest tt g.ended))
