-- The value of an expression. Operands are evaluated from left to right.
use Rattle.std.specs.Prelude.{ℕ, ℤ, pos, negsuc, ◌+◌, nat_lt, if◌then◌else◌, List, [], ◌∷◌, Option, Some, None, unwrap_or}
use Rattle.cal_base.specs.declared.ends.Cause.TheVariants.{OutOfRange}
use Rattle.cal_base.specs.declared.value.Val.{Val}
use Rattle.cal_base.specs.declared.value.Val.TheVariants as val
use Rattle.csl_tree.specs.declared.program.Program.{Program}
use Rattle.csl_tree.specs.declared.program.Expr.{Expr}
use Rattle.csl_tree.specs.declared.program.Node.{Node, Number, Truth, Read, CallOf, Unary', Binary', Paren', Row_of-Expr, end_of-Expr}
use Rattle.csl_tree.specs.declared.program.Node.{more_of-Expr}
use Rattle.csl_tree.specs.declared.program.Place.{Place, Place', None', Some'}
use Rattle.csl_tree.specs.declared.program.Call.{Call, Call'}
use Rattle.csl_meaning.specs.declared.state.Area.{Area}
use Rattle.csl_meaning.specs.Layout.{Text, area_of}
use Rattle.csl_meaning.specs.Locals.{Locals, local_value}
use Rattle.csl_meaning.specs.Operators.{number_in, unary, decided, binary}
use Rattle.csl_meaning.specs.Runs.{Run, ◌>>=◌, ◌>>◌, pure, stop, try, take_unit, word_at}

-- what a call of the function with this name gives for these arguments; its unit of fuel is taken before
abbrev pub Calls : Type 0
Calls = Text → List Val → Run (Option Val)

-- the value of a call of a function that gives nothing, which no accepted program uses
abbrev pub no_value : Val
no_value = val.Int (pos 0)

-- the address of an array's item, if the index is in its range
abbrev pub item_at : Area → ℤ → Option ℕ
item_at area (negsuc n) = None
item_at area (pos i) = if nat_lt i (unwrap_or area.items 0) then Some (area.first + i) else None

-- that address, or the cause
abbrev pub in_range : Option ℕ → Run ℕ
in_range None = stop OutOfRange
in_range (Some address) = pure address

-- the words of a name that is used; an accepted program uses no other name
abbrev pub declared : Option Area → Area
declared None = record { first = 0; items = None }
declared (Some area) = area

-- what a word reads as, as a value
abbrev pub read_as_int : ℕ → Run Val
read_as_int address = do
  z ← word_at address
  pure (val.Int z)

-- what a name reads as: it is a local, else a shared word
abbrev pub read_name : Option Val → Area → Run Val
read_name (Some v) area = pure v
read_name None area = read_as_int area.first

-- goes on where the left operand does not decide
abbrev pub unless : Option Val → Run Val → Run Val
unless None more = more
unless (Some v) more = pure v

module _ (p : Program) (calls : Calls) (locals : Locals) where
  abbrev mutual
    -- the value of an expression
    pub value : Node → Run Val
    value (Number z) = pure (val.Int z)
    value (Truth b) = pure (val.Truth b)
    value (Read place) = read place
    value (CallOf call) = do
      given ← result call
      pure (unwrap_or given no_value)
    value (Unary' op shape a) = do
      x ← boxed a
      try (unary op x)
    value (Binary' op shape a shape' b) = do
      x ← boxed a
      unless (decided op x) (do
        y ← boxed b
        try (binary op x y))
    value (Paren' shape a) = boxed a

    -- what a place reads as; an index is evaluated, then tested
    pub read : Place → Run Val
    read (Place' name None') = read_name (local_value locals name.text) (declared (area_of p.shared name.text))
    read (Place' name (Some' shape i)) = do
      x ← boxed i
      address ← in_range (item_at (declared (area_of p.shared name.text)) (number_in x))
      read_as_int address

    -- what a call gives: its arguments are evaluated, one unit of fuel is taken, then the function's body runs
    pub result : Call → Run (Option Val)
    result (Call' name shape args) = do
      given ← values args
      take_unit
      calls name.text given

    -- the value of the expression in a box
    pub boxed : {n : _} → Row_of-Expr n → Run Val
    boxed end_of-Expr = pure no_value
    boxed (more_of-Expr at node rest) = value node

    -- the values of several expressions
    pub values : {n : _} → Row_of-Expr n → Run (List Val)
    values end_of-Expr = pure []
    values (more_of-Expr at node rest) = do
      v ← value node
      vs ← values rest
      pure (v ∷ vs)

  -- the value of an expression at its place
  abbrev pub value_of : Expr → Run Val
  value_of e = value e.node
