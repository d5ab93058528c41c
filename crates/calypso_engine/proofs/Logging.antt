-- What went to the log, one after the other.
use Rattle.std.proofs.Common.{ℕ, List, [], ◌++◌, Option, None, Some, Bor, IfSome, refl, ◌∙◌}
use Rattle.std.specs.Prelude.{option_map}
use Rattle.std.proofs.Math.Seq.{take-length}
use Rattle.cal_base.specs.Contents.{Contents, HoldsBytes, Told, StaysTrue}
use Rattle.cal_base.proofs.Pieces.{Told-nil, Told-more}
use Rattle.calypso_engine.specs.Logs.{Logs, LogsFront}
use Rattle.calypso_engine.proofs.Texts.{starts_nothing, starts_after, starts_more}

-- the log, where one is named, holds bytes
abbrev pub LogHolds : Option (List ℕ) → Option Contents → Type 0
LogHolds None held = Unit {0}
LogHolds (Some name) held = HoldsBytes held name

-- a log that was created does
pub log_holds : {Files : Type 0} (files : Files) (holds : Files → Option Contents) (created : Files → List ℕ → Type 0)
    → ((f : Files) (name : List ℕ) → created f name → HoldsBytes (holds f) name)
    → (log : Option (Bor (List ℕ))) → IfSome log (λ name. created files name.now) → LogHolds (option_map (λ name. name.now) log) (holds files)
log_holds files holds created law None is = tt
log_holds files holds created law (Some name) is = law files name.now is

-- nothing went to the log
pub logs_none : (log : Option (List ℕ)) (held : Option Contents) → LogHolds log held → Told held held (Logs log [])
logs_none None None h = tt
logs_none None (Some m) h = λ name. refl
logs_none (Some name) held h = Told-nil held name h

-- a text, and then another
pub logs_then : (log : Option (List ℕ)) (a b c : Option Contents) (p q : List ℕ) → Told a b (Logs log p) → Told b c (Logs log q) → Told a c (Logs log (p ++ q))
logs_then None None b c p q first second = tt
logs_then None (Some m) None c p q first second = absurd first
logs_then None (Some m) (Some n) None p q first second = absurd second
logs_then None (Some m) (Some n) (Some o) p q first second = λ name. second name ∙ first name
logs_then (Some name) a b c p q first second = Told-more a b c name p q first second

-- a text, and then a front of another
pub logs_then_front : (log : Option (List ℕ)) (a b c : Option Contents) (p q : List ℕ) → Told a b (Logs log p) → Told b c (LogsFront log q) → Told a c (LogsFront log (p ++ q))
logs_then_front None None b c p q first second = tt
logs_then_front None (Some m) None c p q first second = absurd first
logs_then_front None (Some m) (Some n) None p q first second = absurd second
logs_then_front None (Some m) (Some n) (Some o) p q first second = λ name. second name ∙ first name
logs_then_front (Some name) None b c p q first second = tt
logs_then_front (Some name) (Some m) None c p q first second = absurd first
logs_then_front (Some name) (Some m) (Some n) None p q first second = absurd second
logs_then_front (Some name) (Some m) (Some n) (Some o) p q first second =
    (p ++ second.0, starts_after p q second.0 second.1, Told-more (Some m) (Some n) (Some o) name p second.0 first second.2)

-- a front of what comes first
pub logs_front_more : (log : Option (List ℕ)) (a b : Option Contents) (p q : List ℕ) → Told a b (LogsFront log p) → Told a b (LogsFront log (p ++ q))
logs_front_more None a b p q h = h
logs_front_more (Some name) None b p q h = tt
logs_front_more (Some name) (Some m) None p q h = absurd h
logs_front_more (Some name) (Some m) (Some n) p q h = (h.0, starts_more p h.0 q h.1, h.2)

-- the whole text is a front of it
pub logs_whole_front : (log : Option (List ℕ)) (a b : Option Contents) (p : List ℕ) → Told a b (Logs log p) → Told a b (LogsFront log p)
logs_whole_front None a b p h = h
logs_whole_front (Some name) None b p h = tt
logs_whole_front (Some name) (Some m) None p h = absurd h
logs_whole_front (Some name) (Some m) (Some n) p h = (p, take-length p, h)

-- nothing went to the log: a front of any text
pub logs_front_none : (log : Option (List ℕ)) (held : Option Contents) (p : List ℕ) → LogHolds log held → Told held held (LogsFront log p)
logs_front_none None None p h = tt
logs_front_none None (Some m) p h = λ name. refl
logs_front_none (Some name) None p h = tt
logs_front_none (Some name) (Some m) p h = ([], starts_nothing p, Told-nil (Some m) name h)

-- what was created stays so
pub made_stays : (log : Option (Bor (List ℕ))) (Old New : List ℕ → Type 0) → StaysTrue Old New → IfSome log (λ name. Old name.now) → IfSome log (λ name. New name.now)
made_stays None Old New stays made = tt
made_stays (Some name) Old New stays made = stays name.now made
