-- Walks, loops, means, and the period of a network with its departures. The amounts are of any ordered group G.
use Rattle.std.specs.Prelude.{◌≡◌, ℕ, ◌<◌, ◌≤◌, T, List, [], ◌∷◌, length, slice_index}
use Rattle.amount.specs.Groups.{Ordered, times}
use Rattle.amount.specs.Rows.{Row, row_of}
use Rattle.network.specs.Networks.{Graph, wait_at}

-- a network as a graph: events and waits are numbered from 0, and each wait leads from an event to an event
pub record Net (A : Type 0) : Type 0 where
  pub events : ℕ
  pub waits : ℕ
  pub from : ℕ → ℕ
  pub to : ℕ → ℕ
  pub amount : ℕ → A

-- the graph of a network, whose amounts are read as rows of d places
abbrev pub net : (d : ℕ) → Graph → Net (Row d)
net d g = record {
  events = g.events;
  waits = length g.waits;
  from = λ e. (wait_at g.waits e).start;
  to = λ e. (wait_at g.waits e).end;
  amount = λ e. row_of d (wait_at g.waits e).amount;
}

-- a walk: the waits es, in the order walked, lead from event u to event v, each from where the one before ended
abbrev pub Walk : {A : Type 0} → Net A → ℕ → List ℕ → ℕ → Type 0
Walk N u [] v = (u < N.events) × (u ≡ v)
Walk N u (e ∷ es) v = (e < N.waits) × (N.from e ≡ u) × Walk N (N.to e) es v

-- a closed walk: one wait or more, and it ends where it began
pub record Closed {A : Type 0} (N : Net A) (u : ℕ) (es : List ℕ) : Type 0 where
  pub walk : Walk N u es u
  pub some : 0 < length es

-- a loop: a closed walk that starts at no event twice
pub record Loop {A : Type 0} (N : Net A) (u : ℕ) (es : List ℕ) : Type 0 where
  pub closed : Closed N u es
  pub apart : (i j : ℕ) → i < j → j < length es → ¬ (N.from (slice_index es i) ≡ N.from (slice_index es j))

-- what a walk counts for: the number of its waits
unfoldable pub count : {A : Type 0} → Net A → List ℕ → ℕ
count N es = length es

-- what the waits of a walk come to, each taken at the row that w gives it
abbrev pub sum : {A : Type 0} → Ordered A → (ℕ → A) → List ℕ → A
sum G w [] = G.nil
sum G w (e ∷ es) = G.add (w e) (sum G w es)

-- the total of a walk: its amounts added up
abbrev pub total : {A : Type 0} → Ordered A → Net A → List ℕ → A
total G N es = sum G N.amount es

-- the mean t over c is at most the mean s over b: compared as b × t and c × s
abbrev pub MeanLe : {A : Type 0} → Ordered A → A → ℕ → A → ℕ → Type 0
MeanLe G t c s b = T (G.leq (times G b t) (times G c s))

-- the mean t over c is below the mean s over b
abbrev pub MeanLt : {A : Type 0} → Ordered A → A → ℕ → A → ℕ → Type 0
MeanLt G t c s b = ¬ MeanLe G s b t c

-- every closed walk's mean is at most p over q
abbrev pub Bounds : {A : Type 0} → Ordered A → Net A → A → ℕ → Type 0
Bounds G N p q = (u : ℕ) (es : List ℕ) → Closed N u es → MeanLe G (total G N es) (count N es) p q

-- departures at period p over q keep every wait: row of the end + p is at least row of the start + q × amount
abbrev pub Keeps : {A : Type 0} → Ordered A → Net A → A → ℕ → (ℕ → A) → Type 0
Keeps G N p q r = (e : ℕ) → e < N.waits → T (G.leq (G.add (r (N.from e)) (times G q (N.amount e))) (G.add (r (N.to e)) p))

-- departures nowhere below zero
abbrev pub NonNegative : {A : Type 0} → Ordered A → Net A → (ℕ → A) → Type 0
NonNegative G N r = (v : ℕ) → v < N.events → T (G.leq G.nil (r v))

-- what a walk gives the event where it ends, at period p over q: q × total − count × p
abbrev pub weight : {A : Type 0} → Ordered A → Net A → A → ℕ → List ℕ → A
weight G N p q es = G.add (times G q (total G N es)) (G.neg (times G (count N es) p))

-- x is the greatest that any walk to v gives it, the walk of no waits among them
pub record Departure {A : Type 0} (G : Ordered A) (N : Net A) (p : A) (q v : ℕ) (x : A) : Type 0 where
  pub reached : (u : ℕ) × (es : List ℕ) × Walk N u es v × (weight G N p q es ≡ x)
  pub most : (u : ℕ) (es : List ℕ) → Walk N u es v → T (G.leq (weight G N p q es) x)

-- p over q is the period of N, the loop es shows it, and the rows r are the departures shown
pub record Period {A : Type 0} (G : Ordered A) (N : Net A) (p : A) (q : ℕ) (es : List ℕ) (r : ℕ → A) : Type 0 where
  -- a loop, in the order walked, from the event where its first wait starts
  pub loop : Loop N (N.from (slice_index es 0)) es
  -- that event is the loop's lowest
  pub lowest : (i : ℕ) → i < length es → N.from (slice_index es 0) ≤ N.from (slice_index es i)
  -- the period is the loop's own mean
  pub sums : p ≡ total G N es
  pub counts : q ≡ count N es
  -- no closed walk has a greater mean
  pub bounds : Bounds G N p q
  -- the departures are the greatest that walks give
  pub departures : (v : ℕ) → v < N.events → Departure G N p q v (r v)
  -- they keep every wait and are nowhere below zero
  pub keeps : Keeps G N p q r
  pub above : NonNegative G N r
  -- others that keep every wait and are nowhere below zero are at every event at least as late
  pub least : (s : ℕ → A) → Keeps G N p q s → NonNegative G N s → (v : ℕ) → v < N.events → T (G.leq (r v) (s v))
  -- at a shorter period none keep every wait
  pub shorter : (s : A) (b : ℕ) → 1 ≤ b → MeanLt G s b p q → (t : ℕ → A) → ¬ Keeps G N s b t

-- there is no closed walk
abbrev pub NoClosed : {A : Type 0} → Net A → Type 0
NoClosed N = (u : ℕ) (es : List ℕ) → ¬ Closed N u es
