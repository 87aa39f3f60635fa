-- Values that are changed one after the other, in the order of their keys.
use Rattle.std.proofs.Common.{◌≡◌, ◌<◌, ℕ, length, List, [], ◌∷◌, Bool, true, false, cond, refl, sym, ◌∙◌, ap, arith}
use Rattle.std.specs.Prelude.{Option, Some, None, ◌==◌}
use Rattle.std.proofs.lemmas.Bool.Decides.{nat_tests}
use Rattle.std.specs.Option.{option_map}
use Rattle.std.specs.Ordering.{nat_cmp, eq_by_cmp}
use Rattle.std.specs.Cmp.{nat_cmp_total}
use Rattle.std.specs.FinMap.{get, insert, entries, find, put, get-entries, entries-insert, same_map, nat_cmp-IsAntisymmetric, gets}
use Rattle.next_ids.specs.Maps.{Numbers, map_values}
use Rattle.next_ids.proofs.MapLemmas.{get-map_values}
use Rattle.next_maps.specs.Walks.{is_after, entries_after, first_of}
use Rattle.next_table.proofs.Walked.{next-first, next-smaller}

-- a key above one that isn't reached isn't reached
after-step : (at : Option ℕ) (key q : ℕ) → is_after nat_cmp at key ≡ true → is_after nat_cmp (Some key) q ≡ true → is_after nat_cmp at q ≡ true
after-step None key q h above = refl
after-step (Some a) key q h above = grind (arith, nat_tests)

module _ {X : Type 0} where
  -- what is left of a walk has the keys that it has still to reach
  find-after : (at : Option ℕ) (q : ℕ) (es : List (ℕ × X)) → find nat_cmp q (entries_after nat_cmp at es) ≡ cond (is_after nat_cmp at q) (find nat_cmp q es) None
  find-after None q [] = refl
  find-after None q (e ∷ es) = ap (cond (eq_by_cmp nat_cmp q e.0) (Some e.1)) (find-after None q es)
  find-after (Some a) q [] = grind arith
  find-after (Some a) q (e ∷ es) = grind (arith, nat_tests, find-after (Some a) q es)

  -- a value set at the key that a walk is at is behind it
  after-put : (k : ℕ) (x : X) (es : List (ℕ × X)) → entries_after nat_cmp (Some k) (put nat_cmp k x es) ≡ entries_after nat_cmp (Some k) es
  after-put k x [] = grind (arith, nat_tests)
  after-put k x (e ∷ es) = grind (arith, nat_tests, after-put k x es)

  abbrev pub reached : Bool → (X → X) → Option X → Option X
  reached true change o = o
  reached false change o = option_map change o

module _ {X : Type 0} (change : ℕ → X → X) (old : Numbers X) where
  -- the values at keys that the walk has reached are changed, and what is left of it is as it was
  abbrev pub ChangedTo : Option ℕ → Numbers X → Type 0
  ChangedTo at now =
      (entries_after nat_cmp at (entries now) ≡ entries_after nat_cmp at (entries old))
      × ((q : ℕ) → get now q ≡ reached (is_after nat_cmp at q) (change q) (get old q))

  pub changed-start : ChangedTo None old
  changed-start = (refl, λ q. refl)

  module _ (at : Option ℕ) (now : Numbers X) (h : ChangedTo at now) where
    -- a key that isn't reached has the value that it had
    left-get : (q : ℕ) → is_after nat_cmp at q ≡ true → get old q ≡ find nat_cmp q (entries_after nat_cmp at (entries old))
    left-get q after = get-entries old q ∙ sym (find-after at q (entries old) ∙ ap (λ b. cond b (find nat_cmp q (entries old)) None) after)

    -- where nothing is left, all are changed
    pub changed-all : None ≡ first_of (entries_after nat_cmp at (entries now)) → now ≡ map_values change old
    changed-all none = same_map nat_cmp_total nat_cmp-IsAntisymmetric _ _ (λ q. by_test q (is_after nat_cmp at q) refl ∙ sym (get-map_values nat_cmp_total nat_cmp-IsAntisymmetric change old q))
      where
        nothing : (es : List (ℕ × X)) → None ≡ first_of es → es ≡ []
        nothing [] h = refl
        nothing (e ∷ es) h = cc

        by_test : (q : ℕ) (b : Bool) → is_after nat_cmp at q ≡ b → get now q ≡ option_map (change q) (get old q)
        by_test q false after = h.1 q ∙ ap (λ b. reached b (change q) (get old q)) after
        by_test q true after =
            let gone : get old q ≡ None = left-get q after ∙ ap (find nat_cmp q) (sym h.0 ∙ nothing _ none) in
            h.1 q ∙ ap (λ b. reached b (change q) (get old q)) after ∙ gone ∙ ap (option_map (change q)) (sym gone)

    -- what the walk shows next is the value that its key had
    module _ (key : ℕ) (x : X) (shown : Some (key, x) ≡ first_of (entries_after nat_cmp at (entries now))) where
      here-now : entries_after nat_cmp at (entries now) ≡ (key, x) ∷ entries_after nat_cmp (Some key) (entries now)
      here-now = next-first now at key x shown

      here-old : entries_after nat_cmp at (entries old) ≡ (key, x) ∷ entries_after nat_cmp (Some key) (entries old)
      here-old = next-first old at key x (shown ∙ ap first_of h.0)

      -- the walk hasn't reached it
      key-left : is_after nat_cmp at key ≡ true
      key-left = by_test (is_after nat_cmp at key) refl
        where
          found : find nat_cmp key (entries_after nat_cmp at (entries old)) ≡ Some x
          found = ap (find nat_cmp key) here-old ∙ grind (arith, nat_tests)

          by_test : (b : Bool) → is_after nat_cmp at key ≡ b → b ≡ true
          by_test true after = refl
          by_test false after =
              let none : find nat_cmp key (entries_after nat_cmp at (entries old)) ≡ None = find-after at key (entries old) ∙ ap (λ b. cond b (find nat_cmp key (entries old)) None) after in
              let some = found in
              cc

      pub old-shown : get old key ≡ Some x
      old-shown = left-get key key-left ∙ ap (find nat_cmp key) here-old ∙ grind (arith, nat_tests)

      pub now-shown : get now key ≡ Some x
      now-shown = h.1 key ∙ ap (λ b. reached b (change key) (get old key)) key-left ∙ old-shown

      -- the walk goes on, over fewer
      pub changed-smaller : (next : Numbers X) → next ≡ insert now key (change key x) → length (entries_after nat_cmp (Some key) (entries next)) < length (entries_after nat_cmp at (entries now))
      changed-smaller next is =
          rw (is, entries-insert nat_cmp_total now key (change key x), after-put key (change key x) (entries now)) (next-smaller now at key x shown)

      pub changed-next : (next : Numbers X) → next ≡ insert now key (change key x) → ChangedTo (Some key) next
      changed-next next is = rw is (left, at_key)
        where
          rest : entries_after nat_cmp (Some key) (entries now) ≡ entries_after nat_cmp (Some key) (entries old)
          rest = let both = sym here-now ∙ h.0 ∙ here-old in cc

          left : entries_after nat_cmp (Some key) (entries (insert now key (change key x))) ≡ entries_after nat_cmp (Some key) (entries old)
          left = rw (entries-insert nat_cmp_total now key (change key x), after-put key (change key x) (entries now)) rest

          -- no key lies between the one that was reached and the next
          none-between : (q : ℕ) → (q == key) ≡ false → is_after nat_cmp at q ≡ true → is_after nat_cmp (Some key) q ≡ false → get old q ≡ None
          none-between q differ after below =
              let apart : eq_by_cmp nat_cmp q key ≡ false = grind (arith, nat_tests) in
              left-get q after ∙ ap (find nat_cmp q) here-old
              ∙ ap (λ b. cond b (Some x) (find nat_cmp q (entries_after nat_cmp (Some key) (entries old)))) apart
              ∙ find-after (Some key) q (entries old)
              ∙ ap (λ b. cond b (find nat_cmp q (entries old)) None) below

          other : (q : ℕ) → (q == key) ≡ false → (b : Bool) → is_after nat_cmp at q ≡ b → (c : Bool) → is_after nat_cmp (Some key) q ≡ c → reached b (change q) (get old q) ≡ reached c (change q) (get old q)
          other q differ true after true above = refl
          other q differ false after false above = refl
          other q differ false after true above = let reached-too = after-step at key q key-left above in cc
          other q differ true after false above = rw (none-between q differ after above) refl

          at_key : (q : ℕ) → get (insert now key (change key x)) q ≡ reached (is_after nat_cmp (Some key) q) (change q) (get old q)
          at_key q = by_test (q == key) refl
            where
              by_test : (b : Bool) → (q == key) ≡ b → get (insert now key (change key x)) q ≡ reached (is_after nat_cmp (Some key) q) (change q) (get old q)
              by_test true same =
                  let alike : q ≡ key = grind (arith, nat_tests) in
                  let there : get (insert now key (change key x)) key ≡ Some (change key x) = grind (arith, nat_tests, gets) in
                  let behind : is_after nat_cmp (Some key) key ≡ false = grind (arith, nat_tests) in
                  rw (alike, there, behind, old-shown) refl
              by_test false differ =
                  let kept : get (insert now key (change key x)) q ≡ get now q = grind (arith, nat_tests, gets) in
                  kept ∙ h.1 q ∙ other q differ (is_after nat_cmp at q) refl (is_after nat_cmp (Some key) q) refl
