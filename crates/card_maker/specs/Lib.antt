-- Making a card as it is computed: what its parts promise one another.
pub mod Parts
