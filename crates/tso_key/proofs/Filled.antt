-- Arrays filled one place after the other: queues one behind the other, and values by two.
use Prim.Native.Nat.{ℕ, zero, suc, ◌+◌, ◌-◌, ◌*◌, ◌/◌, ◌^◌, ◌<◌, ◌≤◌}
use mathlib.Core.Path.{◌≡◌, refl, sym, ap, ap₂, subst, ◌∙◌}
use mathlib.Core.List.{List, [], ◌∷◌, ◌++◌, map, map-append, append_assoc, append-nil}
use native.Mathlib.Omega.{arith}
use native.Mathlib.Nat.{pow-suc, pow-le-pow_right}
use lib.ListN.{length, length-append, length-map, length-replicate, get_or, set, take, replicate}
use lib.Seq.{take_all}
use Rattle.spec_schedules.specs.Lists.{range}
use Rattle.spec_schedules.proofs.Lists.{range_length}
use Rattle.spec_tso.specs.Queue.{Entry}
use Rattle.tso_machine.specs.Slots.{no_store, entry_at, queue_at}
use Rattle.tso_machine.specs.declared.state.Pending.{Pending}
use Rattle.tso_machine.proofs.InSlots.{queue_last}
use Rattle.theory_sc_key.specs.Key.{pairs, padded}
use Rattle.theory_sc_key.proofs.Packing.{pairs_half, padded_length}
use Rattle.states_key.proofs.Padding.{padded_put, pairs_padded}
use Rattle.theory_tso_key.specs.Words.{join, locations, stored, appended}
use Rattle.theory_tso_key.proofs.Words.{appended_more}
use Rattle.tso_key.specs.Carried.{queues_to}

-- ---- one number more behind those that stand there
put_behind : (k : ℕ) (l m : List ℕ) (n v : ℕ) (values : List ℕ) → length (l ++ m) ≡ n → n < k → values ≡ padded k (l ++ m) → set values n v ≡ padded k (l ++ (m ++ (v ∷ [])))
put_behind k l m n v values e h q = ap (λ (z : List ℕ). set z n v) q ∙ padded_put k (l ++ m) n v e h ∙ ap (padded k) (append_assoc l m (v ∷ []))

-- ---- A QUEUE, store by store
pub queue_length : (slots : List Pending) (from n : ℕ) → length (queue_at slots from n) ≡ n
unfolding queue_at
queue_length slots from n = length-map (range from n) (entry_at slots) ∙ range_length from n

module _ (slots : List Pending) (head i : ℕ) (h : head ≤ i) where
  last_store : queue_at slots head (i + 1 - head) ≡ queue_at slots head (i - head) ++ (entry_at slots i ∷ [])
  last_store = ap (queue_at slots head) (let e : i + 1 - head ≡ suc (i - head) = omega arith in e) ∙ queue_last slots head (i - head) i (omega arith)

  pub values_more : (l : List ℕ) (n at : ℕ) (values : List ℕ) → length l ≡ n → at ≡ n + (i - head) → at < 16 → values ≡ padded 16 (l ++ stored (queue_at slots head (i - head))) →
      set values at (get_or slots i no_store).value ≡ padded 16 (l ++ stored (queue_at slots head (i + 1 - head)))
  unfolding entry_at
  values_more l n at values e a b q =
      let q' : List Entry = queue_at slots head (i - head) in
      let size : length (l ++ stored q') ≡ at = length-append l (stored q') ∙ omega (arith, e, a, length-map q' (λ (x : Entry). x.value), queue_length slots head (i - head)) in
      put_behind 16 l (stored q') at (get_or slots i no_store).value values size b q
      ∙ ap (λ (z : List ℕ). padded 16 (l ++ z)) (sym (map-append (λ (x : Entry). x.value) q' (entry_at slots i ∷ [])) ∙ ap stored (sym last_store))

  pub places_more : (places word : ℕ) → word ≡ appended 8 places (locations (queue_at slots head (i - head))) →
      word * 8 + (get_or slots i no_store).location ≡ appended 8 places (locations (queue_at slots head (i + 1 - head)))
  unfolding entry_at appended
  places_more places word e =
      let q' : List Entry = queue_at slots head (i - head) in
      ap (λ (z : ℕ). z * 8 + (get_or slots i no_store).location) e ∙ sym (appended_more 8 places (locations q') ((get_or slots i no_store).location ∷ []))
      ∙ ap (appended 8 places) (sym (map-append (λ (x : Entry). x.location) q' (entry_at slots i ∷ [])) ∙ ap locations (sym last_store))

  pub places_room : (n word d : ℕ) → word < 8 ^ (n + (i - head)) → d < 8 → word * 8 + d < 8 ^ (n + (i + 1 - head))
  places_room n word d b c =
      let e : n + (i + 1 - head) ≡ suc (n + (i - head)) = omega arith in
      omega (arith, ap (λ (k : ℕ). 8 ^ k) e, pow-suc 8 (n + (i - head)), b, c)

pub places_none : (slots : List Pending) (head places : ℕ) → places ≡ appended 8 places (locations (queue_at slots head (head - head)))
unfolding appended queue_at range
places_none slots head places = let e : head - head ≡ 0 = omega arith in rw e

pub values_none : (slots : List Pending) (head : ℕ) (l : List ℕ) → padded 16 l ≡ padded 16 (l ++ stored (queue_at slots head (head - head)))
unfolding queue_at range
values_none slots head l = let e : head - head ≡ 0 = omega arith in ap (padded 16) (rw e (sym (append-nil l)))

pub places_below : (k word : ℕ) → k ≤ 16 → word < 8 ^ k → word < 2 ^ 48
places_below k word h b =
    let l : 8 ^ k ≤ 8 ^ 16 = pow-le-pow_right {n = 8} (omega arith) {i = k} {j = 16} h in
    let c : 8 ^ 16 ≡ 2 ^ 48 = refl in
    omega (arith, l, c, b)

-- ---- QUEUE BY QUEUE
range_last : (d n : ℕ) → range d (suc n) ≡ range d n ++ ((d + n) ∷ [])
unfolding range
range_last d zero = let e : d ≡ d + 0 = omega arith in ap (λ (i : ℕ). let z : List ℕ = i ∷ [] in z) e
range_last d (suc n) = let e : suc d + n ≡ d + suc n = omega arith in ap (λ (l : List ℕ). d ∷ l) (range_last (suc d) n ∙ ap (λ (i : ℕ). range (suc d) n ++ (i ∷ [])) e)

join_append : {A : Type 0} (xs ys : List (List A)) → join (xs ++ ys) ≡ join xs ++ join ys
unfolding join
join_append [] ys = refl
join_append (x ∷ xs) ys = ap (λ z. x ++ z) (join_append xs ys) ∙ sym (append_assoc x (join xs) (join ys))

module _ (slots : List Pending) (heads tails : List ℕ) where
  abbrev queue : ℕ → List Entry
  queue t = queue_at slots (get_or heads t 0) (get_or tails t 0 - get_or heads t 0)

  pub join_more : (t : ℕ) → join (queues_to slots heads tails (t + 1)) ≡ join (queues_to slots heads tails t) ++ queue_at slots (get_or heads t 0) (get_or tails t 0 - get_or heads t 0)
  unfolding join
  join_more t =
      let e : t + 1 ≡ suc t = omega arith in
      let z : 0 + t ≡ t = omega arith in
      ap (λ (n : ℕ). join (map queue (range 0 n))) e ∙ ap (λ (l : List ℕ). join (map queue l)) (range_last 0 t ∙ ap (λ (i : ℕ). range 0 t ++ (i ∷ [])) z)
      ∙ ap join (map-append queue (range 0 t) (t ∷ [])) ∙ join_append (map queue (range 0 t)) (queue t ∷ [])
      ∙ ap (λ (l : List Entry). join (map queue (range 0 t)) ++ l) (append-nil (queue t))

  pub join_size : (t : ℕ) → length (join (queues_to slots heads tails (t + 1))) ≡ length (join (queues_to slots heads tails t)) + (get_or tails t 0 - get_or heads t 0)
  join_size t = ap length (join_more t) ∙ length-append (join (queues_to slots heads tails t)) (queue t)
      ∙ ap (λ (n : ℕ). length (join (queues_to slots heads tails t)) + n) (queue_length slots (get_or heads t 0) (get_or tails t 0 - get_or heads t 0))

  join_grows : (t k : ℕ) → length (join (queues_to slots heads tails t)) ≤ length (join (queues_to slots heads tails (t + k)))
  join_grows t zero = let e : t + 0 ≡ t = omega arith in subst (λ (n : ℕ). length (join (queues_to slots heads tails t)) ≤ length (join (queues_to slots heads tails n))) (sym e) (omega arith)
  join_grows t (suc k) =
      let e : t + k + 1 ≡ t + suc k = omega arith in
      subst (λ (n : ℕ). length (join (queues_to slots heads tails t)) ≤ length (join (queues_to slots heads tails n))) e (omega (arith, join_grows t k, join_size (t + k)))

  pub join_within : (t : ℕ) → t < 6 → length (join (queues_to slots heads tails 6)) ≤ 16 → length (join (queues_to slots heads tails t)) + (get_or tails t 0 - get_or heads t 0) ≤ 16
  join_within t h b =
      let e : t + 1 + (6 - (t + 1)) ≡ 6 = omega arith in
      let g = subst (λ (n : ℕ). length (join (queues_to slots heads tails (t + 1))) ≤ length (join (queues_to slots heads tails n))) e (join_grows (t + 1) (6 - (t + 1))) in
      omega (arith, g, join_size t, b)

-- ---- VALUES BY TWO
twice : ℕ → ℕ
twice zero = 0
twice (suc n) = suc (suc (twice n))

twice_is : (n : ℕ) → twice n ≡ n * 2
unfolding twice
twice_is zero = omega arith
twice_is (suc n) = let e = twice_is n in omega (arith, e)

pairs_last : (vs : List ℕ) (i : ℕ) → suc (twice i) < length vs →
    pairs (take (suc (suc (twice i))) vs) ≡ pairs (take (twice i) vs) ++ ((get_or vs (twice i) 0 + 2 ^ 32 * get_or vs (suc (twice i)) 0) ∷ [])
unfolding pairs twice
pairs_last [] i h = absurd (omega (arith, h))
pairs_last (a ∷ []) i h = absurd (omega (arith, h))
pairs_last (a ∷ b ∷ vs) zero h = refl
pairs_last (a ∷ b ∷ vs) (suc i) h = ap (λ (l : List ℕ). (a + 2 ^ 32 * b) ∷ l) (pairs_last vs i (omega (arith, h)))

pairs_size : (vs : List ℕ) (i : ℕ) → twice i ≤ length vs → length (pairs (take (twice i) vs)) ≡ i
unfolding pairs twice
pairs_size vs zero h = refl
pairs_size [] (suc i) h = absurd (omega (arith, h))
pairs_size (a ∷ []) (suc i) h = absurd (omega (arith, h))
pairs_size (a ∷ b ∷ vs) (suc i) h = ap suc (pairs_size vs i (omega (arith, h)))

pub pairs_more : (values l words : List ℕ) (at i : ℕ) → length l ≡ at → at + i < 27 → i * 2 + 1 < length values → words ≡ padded 27 (l ++ pairs (take (i * 2) values)) →
    (x : ℕ) → x ≡ get_or values (i * 2) 0 + 2 ^ 32 * get_or values (i * 2 + 1) 0 → set words (at + i) x ≡ padded 27 (l ++ pairs (take ((i + 1) * 2) values))
pairs_more values l words at i e b h q x y =
    let t = twice_is i in
    let one : suc (twice i) ≡ i * 2 + 1 = omega (arith, t) in
    let two : suc (suc (twice i)) ≡ (i + 1) * 2 = omega (arith, t) in
    let m : List ℕ = pairs (take (i * 2) values) in
    let many : length m ≡ i = ap (λ (k : ℕ). length (pairs (take k values))) (sym t) ∙ pairs_size values i (omega (arith, t, h)) in
    let size : length (l ++ m) ≡ at + i = length-append l m ∙ omega (arith, e, many) in
    let last = pairs_last values i (omega (arith, one, h)) in
    put_behind 27 l m (at + i) x words size b q
    ∙ ap (λ (z : List ℕ). padded 27 (l ++ z))
    (ap (λ (z : ℕ). m ++ (z ∷ [])) (y ∙ ap₂ (λ (a c : ℕ). get_or values a 0 + 2 ^ 32 * get_or values c 0) (sym t) (sym one))
    ∙ ap (λ (k : ℕ). pairs (take k values) ++ ((get_or values (twice i) 0 + 2 ^ 32 * get_or values (suc (twice i)) 0) ∷ [])) (sym t) ∙ sym last ∙ ap (λ (k : ℕ). pairs (take k values)) two)

pub pairs_none : (values l : List ℕ) → padded 27 l ≡ padded 27 (l ++ pairs (take (0 * 2) values))
unfolding pairs
pairs_none values l = let z : 0 * 2 ≡ 0 = omega arith in ap (padded 27) (sym (ap (λ (k : ℕ). l ++ pairs (take k values)) z ∙ append-nil l))

-- ---- one queue more
module _ (slots : List Pending) (heads tails : List ℕ) where
  pub values_start : replicate 16 0 ≡ padded 16 (stored (join (queues_to slots heads tails 0)))
  unfolding padded join range
  values_start = refl

  pub places_start : 0 ≡ appended 8 0 (locations (join (queues_to slots heads tails 0)))
  unfolding appended join range
  places_start = refl

  pub count_start : 0 ≡ length (join (queues_to slots heads tails 0))
  unfolding join range
  count_start = refl

  module _ (t head tail : ℕ) (eh : head ≡ get_or heads t 0) (et : tail ≡ get_or tails t 0) where
    here : queue_at slots head (tail - head) ≡ queue_at slots (get_or heads t 0) (get_or tails t 0 - get_or heads t 0)
    here = ap₂ (λ (a b : ℕ). queue_at slots a (b - a)) eh et

    pub values_queue : (values : List ℕ) → values ≡ padded 16 (stored (join (queues_to slots heads tails t)) ++ stored (queue_at slots head (tail - head))) → values ≡ padded 16 (stored (join (queues_to slots heads tails (t + 1))))
    values_queue values e = e ∙ ap (λ (q : List Entry). padded 16 (stored (join (queues_to slots heads tails t)) ++ stored q)) here
        ∙ ap (padded 16) (sym (map-append (λ (x : Entry). x.value) (join (queues_to slots heads tails t)) (queue_at slots (get_or heads t 0) (get_or tails t 0 - get_or heads t 0))) ∙ ap stored (sym (join_more slots heads tails t)))

    pub places_queue : (places word : ℕ) → places ≡ appended 8 0 (locations (join (queues_to slots heads tails t))) → word ≡ appended 8 places (locations (queue_at slots head (tail - head))) →
        word ≡ appended 8 0 (locations (join (queues_to slots heads tails (t + 1))))
    places_queue places word p e = e ∙ ap₂ (λ (z : ℕ) (q : List Entry). appended 8 z (locations q)) p here
        ∙ sym (appended_more 8 0 (locations (join (queues_to slots heads tails t))) (locations (queue_at slots (get_or heads t 0) (get_or tails t 0 - get_or heads t 0))))
        ∙ ap (appended 8 0) (sym (map-append (λ (x : Entry). x.location) (join (queues_to slots heads tails t)) (queue_at slots (get_or heads t 0) (get_or tails t 0 - get_or heads t 0))) ∙ ap locations (sym (join_more slots heads tails t)))

    pub count_queue : (n : ℕ) → n ≡ length (join (queues_to slots heads tails t)) → n + (tail - head) ≡ length (join (queues_to slots heads tails (t + 1)))
    count_queue n e = ap₂ (λ (a b : ℕ). a + b) e (ap₂ (λ (a b : ℕ). a - b) et eh) ∙ sym (join_size slots heads tails t)

    pub stored_size : (n : ℕ) → n ≡ length (join (queues_to slots heads tails t)) → length (stored (join (queues_to slots heads tails t))) ≡ n
    stored_size n e = length-map (join (queues_to slots heads tails t)) (λ (x : Entry). x.value) ∙ sym e

-- ---- ZEROS BEHIND, by two and cut off
zeros_join : (a b : ℕ) → replicate {A = ℕ} a 0 ++ replicate b 0 ≡ replicate (a + b) 0
zeros_join zero b = let e : b ≡ 0 + b = omega arith in ap (λ (k : ℕ). replicate {A = ℕ} k 0) e
zeros_join (suc a) b = let e : suc (a + b) ≡ suc a + b = omega arith in ap (λ (l : List ℕ). 0 ∷ l) (zeros_join a b) ∙ ap (λ (k : ℕ). replicate {A = ℕ} k 0) e

padded_again : (n m : ℕ) (l k : List ℕ) → length k ≤ m → length l + m ≤ n → padded n (l ++ padded m k) ≡ padded n (l ++ k)
unfolding padded
padded_again n m l k h i =
    let z : List ℕ = replicate (m - length k) 0 in
    let a = length-append l (k ++ z) in
    let b = length-append k z in
    let c = length-replicate {A = ℕ} (m - length k) 0 in
    let d = length-append l k in
    let e : (m - length k) + (n - length (l ++ (k ++ z))) ≡ n - length (l ++ k) = omega (arith, a, b, c, d) in
    append_assoc l (k ++ z) (replicate (n - length (l ++ (k ++ z))) 0)
    ∙ ap (λ (w : List ℕ). l ++ w) (append_assoc k z (replicate (n - length (l ++ (k ++ z))) 0) ∙ ap (λ (w : List ℕ). k ++ w) (zeros_join (m - length k) (n - length (l ++ (k ++ z))) ∙ ap (λ (j : ℕ). replicate {A = ℕ} j 0) e))
    ∙ sym (append_assoc l k (replicate (n - length (l ++ k)) 0))

-- ---- THE WORDS PUT TOGETHER
module _ (a b c count : ℕ) (s l : List ℕ) (size : length s ≡ count) (few : count ≤ 16) (many : length l ≤ 32) where
  pub heads_three : a ∷ b ∷ c ∷ replicate 24 0 ≡ padded 27 (a ∷ b ∷ c ∷ [])
  unfolding padded
  heads_three = refl

  -- behind the first block
  pub block_one : (stores words : List ℕ) → stores ≡ padded 16 s → words ≡ padded 27 ((a ∷ b ∷ c ∷ []) ++ pairs (take (8 + 8) stores)) → words ≡ padded 27 (a ∷ b ∷ c ∷ pairs s)
  block_one stores words e q =
      let all : take (8 + 8) (padded 16 s) ≡ padded 16 s = take_all 16 (padded 16 s) (let e = padded_length 16 s (omega (arith, size, few)) in omega (arith, e)) in
      let half = pairs_half s in
      q ∙ ap (λ (z : List ℕ). padded 27 ((a ∷ b ∷ c ∷ []) ++ pairs z)) (ap (take (8 + 8)) e ∙ all)
      ∙ ap (λ (z : List ℕ). padded 27 ((a ∷ b ∷ c ∷ []) ++ z)) (pairs_padded 8 s (omega (arith, size, few)))
      ∙ padded_again 27 8 (a ∷ b ∷ c ∷ []) (pairs s) (omega (arith, half, size, few)) (omega arith)

  pub block_size : length (a ∷ b ∷ c ∷ pairs s) ≡ 3 + (count + 1) / 2
  block_size = omega (arith, pairs_half s, size)

  -- and behind the second
  pub block_two : (values words : List ℕ) → values ≡ padded 32 l → words ≡ padded 27 ((a ∷ b ∷ c ∷ pairs s) ++ pairs (take (16 + 16) values)) → words ≡ padded 27 (a ∷ b ∷ c ∷ (pairs s ++ pairs l))
  block_two values words e q =
      let all : take (16 + 16) (padded 32 l) ≡ padded 32 l = take_all 32 (padded 32 l) (let e = padded_length 32 l many in omega (arith, e)) in
      let half = pairs_half l in
      let front = pairs_half s in
      q ∙ ap (λ (z : List ℕ). padded 27 ((a ∷ b ∷ c ∷ pairs s) ++ pairs z)) (ap (take (16 + 16)) e ∙ all)
      ∙ ap (λ (z : List ℕ). padded 27 ((a ∷ b ∷ c ∷ pairs s) ++ z)) (pairs_padded 16 l (omega (arith, many)))
      ∙ padded_again 27 16 (a ∷ b ∷ c ∷ pairs s) (pairs l) (omega (arith, half, many)) (omega (arith, front, size, few))
