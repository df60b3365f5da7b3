pub mod CountLaws
pub mod RankLaws
pub mod SeamLaws
pub mod TangleLaws
pub mod ViewLaws
