-- Lines, put together from what their parts do.

-- one line
pub mod Taking
-- one line after the other
pub mod Going
