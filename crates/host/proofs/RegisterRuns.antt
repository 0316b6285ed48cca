-- A register host over lists of calls.
use Rattle.std.proofs.Common.{◌≡◌, ℕ, List, [], ◌∷◌, ◌++◌, length, get_or, sym, refl, ◌∙◌, arith}
use Rattle.host.specs.Laws.{Keeps, latest_to}
use Rattle.host.specs.Meaning.{HostCall}
use Rattle.host.specs.Registers.{register_meaning, register_of, registers}
use Rattle.host.specs.Runs.{given_by, givings}
use Rattle.host.specs.declared.device.DeviceHost.{DeviceHost}
use Rattle.host.specs.declared.registers.Registers.{Registers}
use Rattle.host.proofs.Machines.{At, ended, ends, means, moved, moves}
use Rattle.std.proofs.lemmas.Grind.{common_steps}

-- A call keeps the count of registers.
same_count : (a : At (List ℕ)) (x : HostCall) → length (moved registers a x).inner ≡ length a.inner
same_count a x = grind (arith, common_steps)

-- What a call gives to a register is what the register holds afterwards.
call_read : (a : At (List ℕ)) (x : HostCall) (r : ℕ) (gs : List (ℕ × ℕ)) → length a.inner ≡ 32
    → latest_to r (given_by (means registers a) x ++ gs) (get_or a.inner r 0) ≡ latest_to r gs (get_or (moved registers a x).inner r 0)
call_read a x r gs n = grind (arith, common_steps)

-- The word in a register after a list of calls.
kept : (l : List HostCall) (a : At (List ℕ)) (r : ℕ) → length a.inner ≡ 32
    → get_or (ended registers a l).inner r 0 ≡ latest_to r (givings (means registers a) l) (get_or a.inner r 0)
kept [] a r n = refl
kept (x ∷ l) a r n =
    let b = moved registers a x in
    rw (moves registers a x) (kept l b r (same_count a x ∙ n) ∙ sym (call_read a x r (givings (means registers b) l) n))

-- The law of the register host.
at_end : (a : At (List ℕ)) → length a.inner ≡ 32 → Keeps a.inner (means registers a)
at_end a n =
    record {
      accepts_all = λ l c. rw (ends registers a l) (grind (arith, common_steps));
      keeps = λ l c o h. grind (arith, common_steps, ends registers a l, kept l a (register_of c) n);
    }

pub registers_keep : (h : DeviceHost Registers) (ws : List ℕ) → h.device.words ≡ ws → length ws ≡ 32 → Keeps ws (register_meaning h)
registers_keep h ws e n = rw (← e) (at_end (record { current = h.current; latest = h.latest; inner = h.device.words }) (grind (arith, common_steps)))
