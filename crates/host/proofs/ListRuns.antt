-- A list host over lists of calls.
use Rattle.std.proofs.Common.{◌≡◌, ℕ, ◌+◌, Bool, true, List, [], ◌∷◌, ◌++◌, length, Some, None, Option, arith}
use Rattle.host.specs.Laws.{InOrder}
use Rattle.host.specs.Lists.{Lists, list_meaning, lists, lists_of, lists_take}
use Rattle.host.specs.Meaning.{HostCall}
use Rattle.host.specs.Runs.{given_by, givings, taken_by, takings}
use Rattle.host.specs.declared.device.DeviceHost.{DeviceHost}
use Rattle.host.specs.declared.lists.Lists.{Lists as ListDevice}
use Rattle.host.proofs.Machines.{At, ended, ends, means, moved, moves}
use Rattle.std.proofs.lemmas.Grind.{common_steps}
use Rattle.std.proofs.lemmas.List.{take_at}

-- What is open can be closed: a word waits for it, or there is room.
abbrev closable : Option ℕ → Lists → Bool
closable None s = true
closable (Some c) s = lists_take s c

-- How calls move the lists, with the words that they take and give.
record Moved (s u : Lists) (ws : List ℕ) (gs : List (ℕ × ℕ)) : Type 0 where
  taken : s.waiting ≡ ws ++ u.waiting
  written : length u.written ≡ length s.written + length gs
  capacity : u.capacity ≡ s.capacity

still : (s : Lists) → Moved s s [] []
still s = grind (arith, common_steps)

joined : (s t u : Lists) (ws vs : List ℕ) (gs hs : List (ℕ × ℕ)) → Moved s t ws gs → Moved t u vs hs → Moved s u (ws ++ vs) (gs ++ hs)
joined s t u ws vs gs hs p q = grind (arith, common_steps)

-- One call.
one_moves : (a : At Lists) (x : HostCall) → closable a.current a.inner ≡ true
    → Moved a.inner (moved lists a x).inner (taken_by (means lists a) x) (given_by (means lists a) x)
one_moves a x h = grind (arith, common_steps)

one_closable : (a : At Lists) (x : HostCall) → closable a.current a.inner ≡ true → closable (moved lists a x).current (moved lists a x).inner ≡ true
one_closable a x h = grind (arith, common_steps)

-- A list of calls.
all-moves : (l : List HostCall) (a : At Lists) → closable a.current a.inner ≡ true
    → Moved a.inner (ended lists a l).inner (takings (means lists a) l) (givings (means lists a) l)
all-moves [] a h = still a.inner
all-moves (x ∷ l) a h =
    let b = moved lists a x in
    rw (moves lists a x) (joined a.inner b.inner (ended lists b l).inner _ _ _ _ (one_moves a x h) (all-moves l b (one_closable a x h)))

-- The law of the list host, from an idle host on that was given no word.
pub at_end : (a : At Lists) → a.current ≡ None → a.inner.written ≡ [] → InOrder a.inner.waiting a.inner.capacity (means lists a)
at_end a o none =
    let open_none : closable a.current a.inner ≡ true = simp o in
    record {
      in_order = λ l. let m = all-moves l a open_none in grind (arith, common_steps, take_at);
      input = λ l c h. let m = all-moves l a open_none in rw (ends lists a l) (grind (arith, common_steps));
      output = λ l c h. let m = all-moves l a open_none in rw (ends lists a l) (grind (arith, common_steps));
    }

pub lists_in_order : (h : DeviceHost ListDevice) (ws : List ℕ) (room : ℕ) → h.current ≡ None
    → lists_of h.device ≡ record { waiting = ws; written = []; capacity = room } → InOrder ws room (list_meaning h)
lists_in_order h ws room o e = grind (arith, common_steps, at_end (record { current = h.current; latest = h.latest; inner = lists_of h.device }))
