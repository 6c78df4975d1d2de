-- The activity of a net by its probability (002, equation 2; document 01, "Gains, paths, building up"). `activity_of` (Edition) says in which editions of the block file it counts.
use Rattle.std.specs.Prelude.{List, ℕ, ◌*◌, ◌-◌}
use Rattle.lists.specs.Table.{entries}
use Rattle.model.specs.Limits.{max_probability}

-- 2 times the probability of a 1 times the probability of a 0, for p 256ths and scaled by 65,536: 2 p (256 − p). There is no p above 256; the difference, and so the activity, is 0 there.
unfoldable pub activity : ℕ → ℕ
activity p = 2 * p * (max_probability - p)

-- the table of 257 numbers, one for each p
unfoldable pub activities : List ℕ
activities = entries activity 0 257
