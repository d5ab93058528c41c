-- A rule that is one rule and then another: what a reader of it answers follows from what the readers of the two answer.
use Rattle.std.proofs.Common.{◌≡◌, ℕ, List, [], ◌∷◌, ◌++◌, Result, Ok, Err, refl, ap, sym, ◌∙◌, subst, append_assoc}
use Rattle.csl_tree.specs.declared.token.Token.{Token}
use Rattle.expression_parser.specs.declared.ParseError.{ParseError}
use Rattle.expression_parser.specs.declared.ParseError.TheVariants as error
use Rattle.expression_parser.specs.Reading.{Found, Refused, Fails, Answers, behind}

-- a tree of a rule, cut where its first part ends
pub record Cut {A T : Type 0} (first : List Token → List Token → A → Type 0) (stops : List Token → Type 0) (second : A → List Token → List Token → T → Type 0) (tokens rest : List Token)
    (tree : T) : Type 0 where
  pub middle : List Token
  pub part : A
  pub one : first tokens middle part
  pub stopped : stops middle
  pub two : second part middle rest tree

-- the rule is the first and then the second, which may look at the first's tree; a first part has one end and
-- one tree, whether it stops shows at the next token, and from behind it some tree can be finished
pub record Sequence {A T : Type 0} (first : List Token → List Token → A → Type 0) (stops : List Token → Type 0) (second : A → List Token → List Token → T → Type 0)
    (spells : List Token → List Token → T → Type 0) (ends : List Token → Type 0) : Type 0 where
  pub join : (tokens middle rest : List Token) (part : A) (tree : T) → first tokens middle part → second part middle rest tree → spells tokens rest tree
  pub cut : (tokens rest : List Token) (tree : T) → spells tokens rest tree → ends rest → Cut first stops second tokens rest tree
  pub unique : (tokens middle middle' : List Token) (part part' : A) → first tokens middle part → first tokens middle' part' → stops middle → stops middle' → (middle ≡ middle') × (part ≡ part')
  pub same_first : (token : Token) (xs ys : List Token) → stops (token ∷ xs) → stops (token ∷ ys)
  pub ending : A → List Token
  pub finished : A → T
  pub some : (part : A) (others : List Token) → second part (ending part ++ others) others (finished part)

-- what is answered for the inner rule at the tokens `here` is answered for the outer one at the tokens `start`
pub record Passes {T : Type 0} (inner outer : List Token → List Token → T → Type 0) (ends : List Token → Type 0) (here start : List Token) : Type 0 where
  pub found : (rest : List Token) (tree : T) → Found inner ends here rest tree → Found outer ends start rest tree
  pub refused : (at : ℕ) → Refused inner ends here at → Refused outer ends start at

pub passed_error : {T : Type 0} (inner outer : List Token → List Token → T → Type 0) (ends : List Token → Type 0) (here start : List Token) (e : ParseError) → Passes inner outer ends here start
    → Fails inner ends here e → Fails outer ends start e
passed_error inner outer ends here start error.NoMemory p h = tt
passed_error inner outer ends here start (error.TooDeep at) p h = absurd h
passed_error inner outer ends here start (error.Unexpected at) p h = p.refused at h

pub passed : {X T : Type 0} (inner outer : List Token → List Token → T → Type 0) (ends : List Token → Type 0) (here start : List Token) (view : X → T × List Token) (result : Result X ParseError)
    → Passes inner outer ends here start → Answers inner ends here view result → Answers outer ends start view result
passed inner outer ends here start view (Ok x) p h = p.found (view x).1 (view x).0 h
passed inner outer ends here start view (Err e) p h = passed_error inner outer ends here start e p h

pub passes_through : {T : Type 0} {one two three : List Token → List Token → T → Type 0} {ends : List Token → Type 0} {xs ys zs : List Token} → Passes one two ends xs ys → Passes two three ends ys zs
    → Passes one three ends xs zs
passes_through p q = record {
  found = λ rest tree f. q.found rest tree (p.found rest tree f);
  refused = λ at r. q.refused at (p.refused at r);
}

module _ {A T : Type 0} (first : List Token → List Token → A → Type 0) (stops : List Token → Type 0) (second : A → List Token → List Token → T → Type 0) (spells : List Token → List Token → T → Type 0)
    (ends : List Token → Type 0) (rule : Sequence first stops second spells ends) where
  first_refused : (tokens : List Token) (at : ℕ) → Refused first stops tokens at → Refused spells ends tokens at
  first_refused tokens at r = record {
    read = r.read;
    token = r.token;
    left = r.left;
    split = r.split;
    stands = r.stands;
    none = λ others rest tree d s.
        let c : Cut first stops second (r.read ++ r.token ∷ others) rest tree = rule.cut (r.read ++ r.token ∷ others) rest tree d s in
        r.none others c.middle c.part c.one c.stopped;
    ending = r.ending ++ rule.ending r.finished;
    finished = rule.finished r.finished;
    some = λ others.
        let more : List Token = rule.ending r.finished in
        let whole : spells (r.read ++ (r.ending ++ (more ++ others))) others (rule.finished r.finished) =
        rule.join _ (more ++ others) others r.finished _ (r.some (more ++ others)) (rule.some r.finished others) in
        let along : List Token → Type 0 = λ x. spells (r.read ++ x) others (rule.finished r.finished) in
        subst along (sym (append_assoc r.ending more others)) whole;
  }

  -- whether a first part stops shows at the next token
  stops_alike : (read : List Token) (token : Token) (xs ys : List Token) → stops (read ++ token ∷ xs) → stops (read ++ token ∷ ys)
  stops_alike [] token xs ys s = rule.same_first token xs ys s
  stops_alike (x ∷ read) token xs ys s = rule.same_first x _ _ s

  second_refused : (tokens middle : List Token) (part : A) (at : ℕ) → Found first stops tokens middle part → Refused (second part) ends middle at → Refused spells ends tokens at
  second_refused tokens middle part at f r = record {
    read = f.read ++ r.read;
    token = r.token;
    left = r.left;
    split = f.split ∙ ap (λ x. f.read ++ x) r.split ∙ sym (append_assoc f.read r.read (r.token ∷ r.left));
    stands = r.stands;
    none = λ others rest tree d s.
        let behind_first : List Token = r.read ++ r.token ∷ others in
        let from : List Token → Type 0 = λ x. spells x rest tree in
        let d' : spells (f.read ++ behind_first) rest tree = subst from (append_assoc f.read r.read (r.token ∷ others)) d in
        let c : Cut first stops second (f.read ++ behind_first) rest tree = rule.cut _ rest tree d' s in
        let here : stops behind_first = stops_alike r.read r.token r.left others (subst stops r.split f.stopped) in
        let same : (c.middle ≡ behind_first) × (c.part ≡ part) = rule.unique _ c.middle behind_first c.part part c.one (f.spelled behind_first) c.stopped here in
        let at_middle : List Token → Type 0 = λ x. second c.part x rest tree in
        let with_part : A → Type 0 = λ x. second x behind_first rest tree in
        r.none others rest tree (subst with_part same.1 (subst at_middle same.0 c.two)) s;
    ending = r.ending;
    finished = r.finished;
    some = λ others.
        let behind_first : List Token = r.read ++ (r.ending ++ others) in
        let along : List Token → Type 0 = λ x. spells x others r.finished in
        subst along (sym (append_assoc f.read r.read (r.ending ++ others))) (rule.join _ behind_first others part _ (f.spelled behind_first) (r.some others));
  }

  second_found : (tokens middle rest : List Token) (part : A) (tree : T) → Found first stops tokens middle part → Found (second part) ends middle rest tree → Found spells ends tokens rest tree
  second_found tokens middle rest part tree f g = record {
    read = f.read ++ g.read;
    split = f.split ∙ ap (λ x. f.read ++ x) g.split ∙ sym (append_assoc f.read g.read rest);
    spelled = λ others.
        let along : List Token → Type 0 = λ x. spells x others tree in
        subst along (sym (append_assoc f.read g.read others)) (rule.join _ (g.read ++ others) others part _ (f.spelled (g.read ++ others)) (g.spelled others));
    stopped = g.stopped;
    ended = g.ended;
  }

  -- what a reader of the rule answers where the first part was refused
  pub after_first : (tokens : List Token) (e : ParseError) → Fails first stops tokens e → Fails spells ends tokens e
  after_first tokens error.NoMemory h = tt
  after_first tokens (error.TooDeep at) h = absurd h
  after_first tokens (error.Unexpected at) h = first_refused tokens at h

  -- what it answers where the first part was found and the second was not
  pub second_error : (tokens middle : List Token) (part : A) (e : ParseError) → Found first stops tokens middle part → Fails (second part) ends middle e → Fails spells ends tokens e
  second_error tokens middle part error.NoMemory f h = tt
  second_error tokens middle part (error.TooDeep at) f h = absurd h
  second_error tokens middle part (error.Unexpected at) f h = second_refused tokens middle part at f h

  -- what it answers where the first part was found: what the reader of the second part answers
  pub after_second : {X : Type 0} (view : X → T × List Token) (tokens middle : List Token) (part : A) (result : Result X ParseError) → Found first stops tokens middle part
      → Answers (second part) ends middle view result → Answers spells ends tokens view result
  after_second view tokens middle part (Ok x) f h = second_found tokens middle (view x).1 part (view x).0 f h
  after_second view tokens middle part (Err e) f h = second_error tokens middle part e f h

  -- behind a first part that was found, what is answered for the second part is answered for the rule
  pub passes_second : (tokens middle : List Token) (part : A) → Found first stops tokens middle part → Passes (second part) spells ends middle tokens
  passes_second tokens middle part f = record {
    found = λ rest tree g. second_found tokens middle rest part tree f g;
    refused = λ at r. second_refused tokens middle part at f r;
  }

-- what a reader answers behind the first token, and so from it
pub passes_behind : {T : Type 0} (spells : List Token → List Token → T → Type 0) (ends : List Token → Type 0) (token : Token) (tokens all : List Token) → all ≡ token ∷ tokens
    → Passes (behind token spells) spells ends tokens all
passes_behind spells ends token tokens all split = record {
  found = λ rest tree f. record {
    read = token ∷ f.read;
    split = split ∙ ap (λ y. token ∷ y) f.split;
    spelled = λ others. f.spelled others;
    stopped = f.stopped;
    ended = f.ended;
  };
  refused = λ at r. record {
    read = token ∷ r.read;
    token = r.token;
    left = r.left;
    split = split ∙ ap (λ y. token ∷ y) r.split;
    stands = r.stands;
    none = λ others rest tree d s. r.none others rest tree d s;
    ending = r.ending;
    finished = r.finished;
    some = λ others. r.some others;
  };
}

-- two rules that spell the same in front of what may follow
pub record Same {T : Type 0} (one two : List Token → List Token → T → Type 0) (ends : List Token → Type 0) : Type 0 where
  pub there : (tokens rest : List Token) (tree : T) → one tokens rest tree → two tokens rest tree
  pub back : (tokens rest : List Token) (tree : T) → two tokens rest tree → ends rest → one tokens rest tree

-- what is answered for a rule is answered for the same rule in other words
pub passes_same : {T : Type 0} (one two : List Token → List Token → T → Type 0) (ends : List Token → Type 0) (tokens : List Token) → Same one two ends → Passes one two ends tokens tokens
passes_same one two ends tokens same = record {
  found = λ rest tree f. record {
    read = f.read;
    split = f.split;
    spelled = λ others. same.there _ _ _ (f.spelled others);
    stopped = f.stopped;
    ended = f.ended;
  };
  refused = λ at r. record {
    read = r.read;
    token = r.token;
    left = r.left;
    split = r.split;
    stands = r.stands;
    none = λ others rest tree d s. r.none others rest tree (same.back _ _ _ d s) s;
    ending = r.ending;
    finished = r.finished;
    some = λ others. same.there _ _ _ (r.some others);
  };
}

-- the first token is refused where no tree begins with it, and some tree there is
pub refused_here : {T : Type 0} (spells : List Token → List Token → T → Type 0) (ends : List Token → Type 0) (token : Token) (tokens : List Token)
    → ((others rest : List Token) (tree : T) → spells (token ∷ others) rest tree → ends rest → ⊥) → (ending : List Token) (finished : T)
    → ((others : List Token) → spells (ending ++ others) others finished) → Refused spells ends (token ∷ tokens) token.at
refused_here spells ends token tokens never ending finished some = record {
  read = [];
  token = token;
  left = tokens;
  split = refl;
  stands = refl;
  none = never;
  ending = ending;
  finished = finished;
  some = some;
}
