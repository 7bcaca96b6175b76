-- A thread of sequential consistency that lags behind one of total store order: it has the pending stores still to do, oldest first, and does
-- nothing else in between. What each step of the thread ahead means for the one that lags.
use Prim.Native.Nat.{ℕ}
use mathlib.Core.Path.{◌≡◌, refl, sym, ap, ap₂, subst, ◌∙◌}
use mathlib.Core.Bool.{Bool, true, false, not, true≢false}
use mathlib.Core.Option.{Option, none, some}
use mathlib.Core.List.{List, [], ◌∷◌, ◌++◌}
use Rattle.spec_sc.specs.Local.{Local, pending, place_of, takes, puts, next}
use Rattle.spec_sc.specs.State as SC
use Rattle.spec_sc.specs.State.{Event, initial_write, History, Cell, latest, noted, written}
use Rattle.spec_sc.proofs.Access.{blind_next, blind_puts}
use Rattle.spec_tso.specs.Queue.{Entry, newest, Found, found_in, queued, at_once, is_empty, oldest_number, oldest_place, oldest_value, newer}
use Rattle.spec_tso.specs.State.{Thread, unqueued, locked, finds, target, number_of, thread_behind, reaches, cell_behind, access, move}
use Rattle.spec_fenced.specs.Fenced.{fenced}
use Rattle.spec_fenced.proofs.Codes.{calmer}

abbrev thread_with : Local → History → SC.Thread
thread_with l h = record { local = l; history = h }

-- the next access of g is the store that e is
pub record Stores (g : SC.Thread) (e : Entry) : Type 0 where
  pub due : pending g.local ≡ true
  pub blind : takes g.local ≡ false
  pub number : e.number ≡ g.history.done
  pub location : e.location ≡ place_of g.local
  pub value : (x : ℕ) → puts g.local x ≡ some e.value

-- g behind its next access, a store
unfoldable pub stored : SC.Thread → SC.Thread
stored g = record { local = next g.local 0; history = noted false initial_write g.history }

noted_blind : (b : Bool) (e : Event) (h : History) → b ≡ false → noted b e h ≡ noted false initial_write h
unfolding noted
noted_blind true e h q = absurd (true≢false q)
noted_blind false e h q = refl

pub stored_advanced : (g : SC.Thread) (c : Cell) → pending g.local ≡ true → takes g.local ≡ false → SC.advanced g c ≡ stored g
unfolding SC.advanced stored
stored_advanced g c m b = ap₂ thread_with (blind_next g.local c.value 0 m b) (noted_blind (takes g.local) (latest c.writes) g.history b)

-- g becomes h by these stores
abbrev pub Lags : List Entry → SC.Thread → SC.Thread → Type 0
Lags [] g h = g ≡ h
Lags (e ∷ q) g h = Stores g e × Lags q (stored g) h

pub one_more : (q : List Entry) (g h : SC.Thread) (e : Entry) → Lags q g h → Stores h e → Lags (q ++ (e ∷ [])) g (stored h)
one_more [] g h e l s = (subst (λ (k : SC.Thread). Stores k e) (sym l) s, ap stored l)
one_more (x ∷ q) g h e l s = (l.0, one_more q (stored g) h e l.1 s)

-- g lags behind h, whose code is fenced
pub record Near (g : SC.Thread) (h : Thread) : Type 0 where
  pub lags : Lags h.queue g (unqueued h)
  pub fences : fenced 0 (not (is_empty h.queue)) h.local.rest ≡ true

filled : (q : List Entry) (e : Entry) → not (is_empty (q ++ (e ∷ []))) ≡ true
unfolding is_empty
filled [] e = refl
filled (x ∷ q) e = refl

-- A STORE of the thread ahead: g has one more to do
module _ (t : ℕ) (g : SC.Thread) (h : Thread) (c : Cell) (n : Near g h) (m : pending h.local ≡ true) (b : takes h.local ≡ false) (f : locked h.local ≡ false) where
  abbrev found : ℕ
  found = (finds t h c).value

  abbrev worth : ℕ
  worth = (blind_puts h.local found found m b).0

  abbrev entry : Entry
  entry = record { number = h.history.done; location = place_of h.local; value = worth }

  is_store : Stores (unqueued h) entry
  unfolding unqueued
  is_store = record {
    due = m;
    blind = b;
    number = refl;
    location = refl;
    value = λ x. same x (blind_puts h.local found x m b);
  }
    where
      same : (x : ℕ) → ((v : ℕ) × (puts h.local found ≡ some v) × (puts h.local x ≡ some v)) → puts h.local x ≡ some worth
      same x r = r.2 ∙ sym r.1 ∙ (blind_puts h.local found found m b).1

  store_thread : unqueued (thread_behind access t h c) ≡ stored (unqueued h)
  unfolding thread_behind unqueued stored
  store_thread = ap₂ thread_with (blind_next h.local found 0 m b) (noted_blind (takes h.local) (finds t h c).source h.history b)

  store_queue : (thread_behind access t h c).queue ≡ h.queue ++ (entry ∷ [])
  unfolding thread_behind queued
  store_queue = ap₂ (λ (x : Bool) (o : Option ℕ). h.queue ++ queued x h.history.done (place_of h.local) o) f (blind_puts h.local found found m b).1

  store_left : ((x : ℕ) → fenced 0 true (next h.local x).rest ≡ true) → fenced 0 true (thread_behind access t h c).local.rest ≡ true
  unfolding thread_behind
  store_left k = k found

  pub near_store : ((x : ℕ) → fenced 0 true (next h.local x).rest ≡ true) → Near g (thread_behind access t h c)
  near_store k = record {
    lags = subst (λ (q : List Entry). Lags q g (unqueued (thread_behind access t h c))) (sym store_queue)
        (subst (Lags (h.queue ++ (entry ∷ [])) g) (sym store_thread) (one_more h.queue g (unqueued h) entry n.lags is_store));
    fences = ap (λ (q : List Entry). fenced 0 (not (is_empty q)) (thread_behind access t h c).local.rest) store_queue
        ∙ ap (λ (x : Bool). fenced 0 x (thread_behind access t h c).local.rest) (filled h.queue entry) ∙ store_left k;
  }

  -- nothing reaches memory
  pub store_still : reaches access t h c ≡ none
  unfolding reaches at_once
  store_still = ap (λ (x : Bool). at_once x (puts h.local found)) f

-- AN ACCESS WITH NOTHING PENDING: g does the same
module _ (t : ℕ) (g : SC.Thread) (h : Thread) (c : Cell) (n : Near g h) (e : h.queue ≡ []) where
  pub level : g ≡ unqueued h
  level = subst (λ (q : List Entry). Lags q g (unqueued h)) e n.lags

  finds_memory : finds t h c ≡ (let x : Found = record { value = c.value; source = latest c.writes } in x)
  unfolding finds newest found_in
  finds_memory = ap (λ (q : List Entry). found_in t (newest q (place_of h.local)) c) e

  direct_thread : unqueued (thread_behind access t h c) ≡ SC.advanced g c
  unfolding thread_behind SC.advanced unqueued
  direct_thread = ap (λ (x : Found). thread_with (next h.local x.value) (noted (takes h.local) x.source h.history)) finds_memory ∙ ap (λ (k : SC.Thread). SC.advanced k c) (sym level)

  pub direct_cell : ((x : ℕ) → at_once (locked h.local) (puts h.local x) ≡ puts h.local x) → cell_behind access t h c ≡ SC.met t g c
  unfolding cell_behind reaches number_of SC.met unqueued
  direct_cell o =
      ap (λ (x : Found). written (t, h.history.done) (at_once (locked h.local) (puts h.local x.value)) c) finds_memory
      ∙ ap (λ (x : Option ℕ). written (t, h.history.done) x c) (o c.value) ∙ ap (λ (k : SC.Thread). SC.met t k c) (sym level)

  direct_queue : ((i l x : ℕ) → queued (locked h.local) i l (puts h.local x) ≡ []) → (thread_behind access t h c).queue ≡ []
  unfolding thread_behind
  direct_queue w = ap₂ (λ (a b : List Entry). a ++ b) e (w h.history.done (place_of h.local) (finds t h c).value)

  direct_left : ((x : ℕ) → fenced 0 false (next h.local x).rest ≡ true) → fenced 0 (not (is_empty [])) (thread_behind access t h c).local.rest ≡ true
  unfolding thread_behind is_empty
  direct_left k = k (finds t h c).value

  pub near_direct : ((i l x : ℕ) → queued (locked h.local) i l (puts h.local x) ≡ []) → ((x : ℕ) → fenced 0 false (next h.local x).rest ≡ true) → Near (SC.advanced g c) (thread_behind access t h c)
  near_direct w k = record {
    lags = subst (λ (q : List Entry). Lags q (SC.advanced g c) (unqueued (thread_behind access t h c))) (sym (direct_queue w)) (sym direct_thread);
    fences = ap (λ (q : List Entry). fenced 0 (not (is_empty q)) (thread_behind access t h c).local.rest) (direct_queue w) ∙ direct_left k;
  }

-- A FLUSH of the oldest pending store: g does that store
module _ (t : ℕ) (g : SC.Thread) (h : Thread) (c : Cell) (n : Near g h) (x : Entry) (q : List Entry) (e : h.queue ≡ x ∷ q) where
  behind_it : Lags (x ∷ q) g (unqueued h)
  behind_it = subst (λ (w : List Entry). Lags w g (unqueued h)) e n.lags

  pub oldest : Stores g x
  oldest = behind_it.0

  flush_queue : (thread_behind move t h c).queue ≡ q
  unfolding thread_behind newer
  flush_queue = ap newer e

  pub flush_place : target move h ≡ place_of g.local
  unfolding target oldest_place
  flush_place = ap oldest_place e ∙ oldest.location

  pub flush_cell : cell_behind move t h c ≡ SC.met t g c
  unfolding cell_behind reaches number_of SC.met oldest_number oldest_value
  flush_cell =
      ap (λ (w : List Entry). written (t, oldest_number w) (oldest_value w) c) e
      ∙ ap₂ (λ (i : ℕ) (o : Option ℕ). written (t, i) o c) oldest.number (sym (oldest.value c.value))

  flush_lags : Lags q (stored g) (unqueued (thread_behind move t h c))
  unfolding thread_behind unqueued
  flush_lags = behind_it.1

  before : fenced 0 true h.local.rest ≡ true
  unfolding is_empty
  before = ap (λ (w : List Entry). fenced 0 (not (is_empty w)) h.local.rest) (sym e) ∙ n.fences

  flush_left : (b : Bool) → fenced 0 b (thread_behind move t h c).local.rest ≡ true
  unfolding thread_behind
  flush_left b = calmer h.local.rest 0 b before

  pub near_flush : Near (SC.advanced g c) (thread_behind move t h c)
  near_flush = record {
    lags = subst (λ (w : List Entry). Lags w (SC.advanced g c) (unqueued (thread_behind move t h c))) (sym flush_queue)
        (subst (λ (k : SC.Thread). Lags q k (unqueued (thread_behind move t h c))) (sym (stored_advanced g c oldest.due oldest.blind)) flush_lags);
    fences = flush_left (not (is_empty (thread_behind move t h c).queue));
  }
